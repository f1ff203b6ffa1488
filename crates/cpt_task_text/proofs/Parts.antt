use Rattle.std.proofs.Common.{◌≡◌, ◌≢◌, ℕ, ◌≤◌, Bool, true, false, cond, eqb, List, [], ◌∷◌, length, drop, None, Some, Err, refl, ap, length-drop, arith}
use Rattle.std.proofs.lemmas.Bool.{eqb-true}
use Rattle.std.proofs.lemmas.List.{nil_from_length}
use Rattle.cpt_line.specs.Digits.{digit_count, number_in}
use Rattle.cpt_line.specs.Lines.{glue, split}
use Rattle.cpt_task_text.specs.declared.error.TaskTextError.TheVariants as errors
use Rattle.cpt_task_text.specs.Reading.{ends_at}

glued : (n b : ℕ) (p : List (List ℕ) × List ℕ) → ends_at n (glue (b ∷ []) p) ≡ Err (errors.Line n)
glued n b ([], rest) = refl
glued n b (line ∷ lines, rest) = refl

either : (n b : ℕ) (bs : List ℕ) (feed : Bool) → ends_at n (cond feed ([] ∷ (split bs).0, (split bs).1) (glue (b ∷ []) (split bs))) ≡ Err (errors.Line n)
either n b bs true = refl
either n b bs false = glued n b (split bs)

-- a text with a byte has something in the place of its first line
pub not_ended : (n : ℕ) (text : List ℕ) → text ≢ [] → ends_at n (split text) ≡ Err (errors.Line n)
not_ended n [] ne = absurd (ne refl)
not_ended n (b ∷ bs) ne = either n b bs (eqb b 10)

some_or : {X : Type 0} (b : Bool) (x y : X) → cond b None (Some x) ≡ Some y → (b ≡ false) × (x ≡ y)
some_or true x y e = absurd cc
some_or false x y e = (refl, cc)

-- what follows a number is no longer than the bytes
pub number_shorter : (bytes : List ℕ) (n : ℕ) (rest : List ℕ) → number_in bytes ≡ Some (n, rest) → length rest ≤ length bytes
unfolding number_in
number_shorter bytes n rest e =
    let p = some_or _ _ (n, rest) e in
    let same : drop (digit_count bytes) bytes ≡ rest = ap (λ (x : ℕ × List ℕ). x.1) p.1 in
    omega (arith, length-drop (digit_count bytes) bytes, ap length same)

pub not_empty : (xs : List ℕ) → eqb (length xs) 0 ≡ false → xs ≢ []
not_empty [] h e = absurd (let z : ⊥ = cc in z)
not_empty (x ∷ xs) h e = absurd (let z : ⊥ = cc in z)

pub is_nil : (xs : List ℕ) → eqb (length xs) 0 ≡ true → xs ≡ []
is_nil xs h = nil_from_length xs (eqb-true _ _ h)
