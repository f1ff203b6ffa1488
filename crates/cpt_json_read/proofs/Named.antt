-- Lists of names, name by name.
use Rattle.std.proofs.Common.{◌≡◌, ℕ, zero, suc, ◌+◌, ◌<◌, true, false, List, [], ◌∷◌, ◌++◌, length, get_or, take, drop, map, sym, ap, ◌∙◌, subst, arith}
use Rattle.std.proofs.lemmas.Bool.{false≢true}
use Rattle.std.proofs.lemmas.List.{drop_more, take-append-drop, take_more}
use Rattle.cpt_line.specs.Names.{AreNames, is_name}
use Rattle.cpt_task_text.specs.Reading.{is_among}
use Rattle.cpt_task_text.proofs.Naming.{names_from_new, new_from_names}

-- the name of an item
pub named_at : {A : Type 0} (named : A → List ℕ) (items : List A) (i : ℕ) (x : A) → i < length items → x ≡ get_or items i x → get_or (map named items) i [] ≡ named x
named_at named [] i x lt is = absurd (omega (arith, lt))
named_at named (y ∷ ys) zero x lt is = ap named (sym is)
named_at named (y ∷ ys) (suc i) x lt is = named_at named ys i x (omega (arith, lt)) is

pub illegal : (names : List (List ℕ)) (i : ℕ) (name : List ℕ) → i < length names → get_or names i [] ≡ name → is_name name ≡ false → AreNames names → ⊥
illegal names i name lt is bad h = false≢true (sym bad ∙ ap is_name (sym is) ∙ h.legal i [] lt)

pub repeated : (names : List (List ℕ)) (i : ℕ) (name : List ℕ) → i < length names → get_or names i [] ≡ name → is_among (take i names) name ≡ true → AreNames names → ⊥
repeated names i name lt is again h =
    let rest = drop_more names i [] lt ∙ ap (λ (x : List ℕ). x ∷ drop (i + 1) names) is in
    let parts : names ≡ take i names ++ (name ∷ drop (i + 1) names) = sym (take-append-drop i names) ∙ ap (λ xs. take i names ++ xs) rest in
    let new = new_from_names (take i names) (name ∷ drop (i + 1) names) (subst AreNames parts h) in
    false≢true (sym new.1 ∙ again)

pub one_more_name : (names : List (List ℕ)) (i : ℕ) (name : List ℕ) → i < length names → get_or names i [] ≡ name → is_name name ≡ true → is_among (take i names) name ≡ false → AreNames (take i names) → AreNames (take (i + 1) names)
one_more_name names i name lt is legal new h =
    subst AreNames (sym (take_more names i [] lt ∙ ap (λ (x : List ℕ). take i names ++ x ∷ []) is)) (names_from_new (take i names) (name ∷ []) h (legal, new, tt))
