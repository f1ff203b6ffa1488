-- the rules of two lists together
use Rattle.std.proofs.Common.{◌≡◌, ℕ, ◌++◌, ◌∷◌, [], List, Bool, true, false, ◌||◌, ◌==◌, refl, sym, ◌∙◌, ap, inl, inr}
use Rattle.std.proofs.lemmas.Bool.{or_cases}
use Rattle.cpt_sheet.specs.declared.data.Step.{Step}
use Rattle.cpt_calculus.specs.Rules.{is_of, rule_of}
use Rattle.cpt_calculus.specs.Closing.{IsMonotone}

or_assoc : (a b c : Bool) → ((a || b) || c) ≡ (a || (b || c))
or_assoc true b c = refl
or_assoc false b c = refl

pub is_of_both : (xs ys : List ℕ) (step : Step) → is_of (xs ++ ys) step ≡ (is_of xs step || is_of ys step)
is_of_both [] ys step = refl
is_of_both (x ∷ xs) ys step = ap (λ t. (x == rule_of step) || t) (is_of_both xs ys step) ∙ sym (or_assoc (x == rule_of step) (is_of xs step) (is_of ys step))

pub monotone_both : (xs ys : List ℕ) → IsMonotone xs → IsMonotone ys → IsMonotone (xs ++ ys)
monotone_both xs ys h k t b above below step o =
    elim (or_cases (is_of xs step) (is_of ys step) (sym (is_of_both xs ys step) ∙ o)) [ inl e ↦ h t b above below step e | inr e ↦ k t b above below step e ]
