use Rattle.std.proofs.Common.{◌≡◌, ◌≢◌, ◌∙◌, ℕ, ◌<◌, ◌++◌, ◌∷◌, [], nat_eq, Bool, true, false, List, length, get_or, set, refl, sym, ap, arith, inl, inr, get_or-set_same, get_or-set_other}
use Rattle.std.specs.Prelude.{if◌then◌else◌}
use Rattle.std.proofs.lemmas.Bool.{cases_lt}
use Rattle.std.proofs.lemmas.Bool.Decides.{nat_tests}
use Rattle.std.proofs.lemmas.List.{get_or_append_left, get_or_past, get_or_push, length_push}
use Rattle.cpt_declared.specs.Kinds.{has}
use Rattle.cpt_declared.specs.Marks.{AreMarks}

-- one more among some types
has_push : (kinds : List ℕ) (x k : ℕ) → has (kinds ++ x ∷ []) k ≡ (if nat_eq x k then true else has kinds k)
has_push [] x k = refl
has_push (y ∷ kinds) x k = by (nat_eq y k) (nat_eq x k) (has_push kinds x k)
  where
    by : (a b : Bool) → has (kinds ++ x ∷ []) k ≡ (if b then true else has kinds k)
        → (if a then true else has (kinds ++ x ∷ []) k) ≡ (if b then true else if a then true else has kinds k)
    by true true h = refl
    by true false h = refl
    by false true h = h
    by false false h = h

same_test : (x k : ℕ) → x ≡ k → nat_eq x k ≡ true
same_test x k h = grind (arith, nat_tests)

-- a type is marked as it is entered
pub marks_entered : (entered : List ℕ) (marks : List Bool) (kind : ℕ) → AreMarks entered marks → kind < length marks → AreMarks (entered ++ kind ∷ []) (set marks kind true)
marks_entered entered marks kind h lt k = by (nat_eq kind k) refl
  where
    by : (t : Bool) → nat_eq kind k ≡ t → get_or (set marks kind true) k false ≡ has (entered ++ kind ∷ []) k
    by true e =
        let same : kind ≡ k = grind (arith, nat_tests) in
        ap (λ i. get_or (set marks kind true) i false) (sym same) ∙ get_or-set_same marks kind true false lt
        ∙ sym (has_push entered kind k ∙ ap (λ b. if b then true else has entered k) e)
    by false e =
        let other : k ≢ kind = λ f. let g = same_test kind k (sym f) in cc in
        get_or-set_other marks kind k true false other ∙ h k ∙ sym (has_push entered kind k ∙ ap (λ b. if b then true else has entered k) e)

-- a type more is not entered
pub marks_push : (entered : List ℕ) (marks : List Bool) → AreMarks entered marks → AreMarks entered (marks ++ false ∷ [])
marks_push entered marks h k =
    elim (cases_lt k (length marks)) [
      | inl lt ↦ get_or_append_left marks (false ∷ []) false k lt ∙ h k
      | inr le ↦
          let last : get_or (marks ++ false ∷ []) k false ≡ false = elim (cases_lt (length marks) k) [
            | inl more ↦ get_or_past (marks ++ false ∷ []) k false (let n = length_push marks false in omega (arith, n, more))
            | inr less ↦ get_or_push marks false false k (omega (arith, less, le))
          ] in
          last ∙ sym (get_or_past marks k false le) ∙ h k
    ]
