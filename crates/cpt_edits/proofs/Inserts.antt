-- an order inserted at its place
use Rattle.std.proofs.Common.{◌≡◌, ℕ, suc, zero, ◌<◌, List, [], ◌∷◌, true, false, if◌then◌else◌, length, get_or, refl, sym, ap, subst, arith}
use Rattle.std.specs.Prelude.{insert}
use Rattle.cpt_sheet.specs.Edits.{with_order}
use Rattle.cpt_sheet.specs.View.{pair_lt}

pub inserted_at : (x y : ℕ) (os : List (ℕ × ℕ)) (i : ℕ) → i < length os → ((k : ℕ) → k < i → pair_lt x y (get_or os k (0, 0)).0 (get_or os k (0, 0)).1 ≡ false) →
    pair_lt x y (get_or os i (0, 0)).0 (get_or os i (0, 0)).1 ≡ true → insert os i (x, y) ≡ with_order x y os
inserted_at x y [] i l h e = absurd (omega arith)
inserted_at x y (o ∷ os) zero l h e = subst (λ t. ((x, y) ∷ (o ∷ os)) ≡ (if t then ((x, y) ∷ (o ∷ os)) else (o ∷ with_order x y os))) (sym e) refl
inserted_at x y (o ∷ os) (suc i) l h e =
    subst (λ t. insert (o ∷ os) (suc i) (x, y) ≡ (if t then ((x, y) ∷ (o ∷ os)) else (o ∷ with_order x y os))) (sym (h 0 (omega arith)))
    (ap (λ z. o ∷ z) (inserted_at x y os i (omega arith) (λ k j. h (suc k) (omega arith)) e))

pub inserted_end : (x y : ℕ) (os : List (ℕ × ℕ)) → ((k : ℕ) → k < length os → pair_lt x y (get_or os k (0, 0)).0 (get_or os k (0, 0)).1 ≡ false) → insert os (length os) (x, y) ≡ with_order x y os
inserted_end x y [] h = refl
inserted_end x y (o ∷ os) h =
    subst (λ t. insert (o ∷ os) (suc (length os)) (x, y) ≡ (if t then ((x, y) ∷ (o ∷ os)) else (o ∷ with_order x y os))) (sym (h 0 (omega arith)))
    (ap (λ z. o ∷ z) (inserted_end x y os (λ k j. h (suc k) (omega arith))))
