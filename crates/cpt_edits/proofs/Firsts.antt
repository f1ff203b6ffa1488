-- the first place of a candidate in a list
use Rattle.std.proofs.Common.{◌≡◌, ℕ, ◌<◌, List, [], ◌∷◌, true, false, if◌then◌else◌, suc, zero, slice_get, length, refl, ap, subst, arith}
use Rattle.std.specs.Prelude.{IsSomeAnd, remove}
use Rattle.cpt_sheet.specs.declared.data.Cand.{Cand}
use Rattle.cpt_sheet.specs.View.{same}
use Rattle.cpt_sheet.specs.Edits.{without}

pub removed_at : (c : Cand) (xs : List Cand) (i : ℕ) → i < length xs → ((k : ℕ) → k < i → IsSomeAnd (slice_get xs k) (λ d. false ≡ same d c)) →
    IsSomeAnd (slice_get xs i) (λ d. true ≡ same d c) → remove xs i ≡ without c xs
removed_at c [] i l h e = absurd (omega arith)
removed_at c (x ∷ xs) zero l h e = subst (λ t. xs ≡ (if t then xs else x ∷ without c xs)) e refl
removed_at c (x ∷ xs) (suc i) l h e =
    subst (λ t. remove (x ∷ xs) (suc i) ≡ (if t then xs else x ∷ without c xs)) (h 0 (omega arith))
    (ap (λ z. x ∷ z) (removed_at c xs i (omega arith) (λ k j. h (suc k) (omega arith)) e))

pub none_there : (c : Cand) (xs : List Cand) → ((k : ℕ) → k < length xs → IsSomeAnd (slice_get xs k) (λ d. false ≡ same d c)) → xs ≡ without c xs
none_there c [] h = refl
none_there c (x ∷ xs) h =
    subst (λ t. (x ∷ xs) ≡ (if t then xs else x ∷ without c xs)) (h 0 (omega arith)) (ap (λ z. x ∷ z) (none_there c xs (λ k j. h (suc k) (omega arith))))
