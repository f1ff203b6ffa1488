-- The steps of reading, taken apart and put together.
use Rattle.std.proofs.Common.{◌≡◌, ℕ, ◌≤◌, Bool, true, false, cond, ltb, List, [], ◌∷◌, ◌++◌, length, drop, Option, None, Some, Result, Ok, Err, refl, sym, ap, ◌∙◌}
use Rattle.std.specs.Str.{bytes_eq}
use Rattle.std.proofs.lemmas.Bool.{ltb-false, le-ltb}
use Rattle.std.proofs.lemmas.List.{take_at, drop_at, take-append-drop}
use Rattle.std.proofs.lemmas.Slice.Eq.{bytes_eq-Decides}
use Rattle.cpt_task.specs.declared.memory.Limit.{Limit}
use Rattle.cpt_task_text.specs.declared.error.TaskTextError.{TaskTextError}
use Rattle.cpt_task_text.specs.declared.error.TaskTextError.TheVariants as errors
use Rattle.cpt_task_text.specs.Reading.{◌>>=◌, Rest, line_at, ends_at, past, checked, found_at, within}

-- the value of a step that did not fail
pub bind_ok : {A B : Type 0} (r : Result A TaskTextError) (f : A → Result B TaskTextError) (y : B) → (r >>= f) ≡ Ok y → (x : A) × (r ≡ Ok x) × (f x ≡ Ok y)
bind_ok (Ok x) f y e = (x, refl, e)
bind_ok (Err d) f y e = absurd cc

abbrev done : {A : Type 0} → A → Result A TaskTextError
done x = Ok x

pub ok_is : {A : Type 0} (x y : A) → done x ≡ done y → x ≡ y
ok_is x y e = cc

guarded : {A : Type 0} (b : Bool) (d : TaskTextError) (x y : A) → cond b (Ok x) (Err d) ≡ Ok y → (b ≡ true) × (x ≡ y)
guarded true d x y e = (refl, cc)
guarded false d x y e = absurd cc

pub eq_bytes : (xs ys : List ℕ) → bytes_eq xs ys ≡ true → xs ≡ ys
eq_bytes xs ys h = (bytes_eq-Decides xs ys).0 h

pub same_bytes : (xs : List ℕ) → bytes_eq xs xs ≡ true
same_bytes xs = (bytes_eq-Decides xs xs).1 refl

pub past_takes : (front : List ℕ) (n : ℕ) (bytes rest : List ℕ) → past front n bytes ≡ Ok rest → bytes ≡ front ++ rest
past_takes front n bytes rest e =
    let g = guarded _ (errors.Line n) (drop (length front) bytes) rest e in
    sym (take-append-drop (length front) bytes) ∙ ap (λ (x : List ℕ). x ++ drop (length front) bytes) (eq_bytes _ _ g.0) ∙ ap (λ (x : List ℕ). front ++ x) g.1

pub past_again : (front : List ℕ) (n : ℕ) (rest : List ℕ) → past front n (front ++ rest) ≡ Ok rest
past_again front n rest = rw (take_at front rest (length front) refl, drop_at front rest (length front) refl, same_bytes front) refl

pub checked_ok : (good : Bool) (n : ℕ) (x : Bool) → checked good n ≡ Ok x → good ≡ true
checked_ok true n x e = refl
checked_ok false n x e = absurd cc

pub within_ok : (most : ℕ) (which : Limit) (count : ℕ) (x : Bool) → within most which count ≡ Ok x → count ≤ most
within_ok most which count x e = ltb-false most count (few (ltb most count) e)
  where
    few : (b : Bool) → cond b (Err (errors.Limit which)) (Ok true) ≡ Ok x → b ≡ false
    few true e = absurd cc
    few false e = refl

pub within_again : (most : ℕ) (which : Limit) (count : ℕ) → count ≤ most → within most which count ≡ Ok true
within_again most which count le = rw (le-ltb most count le) refl

pub found_ok : (n : ℕ) (o : Option (ℕ × List ℕ)) (x : ℕ × List ℕ) → found_at n o ≡ Ok x → o ≡ Some x
found_ok n None x e = absurd cc
found_ok n (Some y) x e = cc

pub line_takes : (n : ℕ) (rest : Rest) (x : List ℕ × Rest) → line_at n rest ≡ Ok x → rest ≡ (x.0 ∷ x.1.0, x.1.1)
line_takes n ([], tail) x e = absurd cc
line_takes n (line ∷ lines, tail) x e = ap (λ (y : List ℕ × Rest). (y.0 ∷ y.1.0, y.1.1)) (ok_is (line, (lines, tail)) x e)

pub ends_ok : (n : ℕ) (rest : Rest) (x : Bool) → ends_at n rest ≡ Ok x → rest ≡ ([], [])
ends_ok n ([], []) x e = refl
ends_ok n ([], b ∷ bs) x e = absurd cc
ends_ok n (line ∷ lines, tail) x e = absurd cc
