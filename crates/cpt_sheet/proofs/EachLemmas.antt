-- loops over lists
use Rattle.std.proofs.Common.{◌≡◌, ℕ, ◌+◌, ◌<◌, inl, inr, List, length, get_or, subst, arith}
use Rattle.std.proofs.lemmas.Bool.{cases_lt}
use Rattle.std.proofs.lemmas.List.{get_or_default}

-- what holds of each of the first i elements and of that at i holds of one more
pub each_more : {X : Type 0} (P : X → Type 0) (xs : List X) (i : ℕ) → i < length xs → ((k : ℕ) (e : X) → k < i → P (get_or xs k e)) →
    (d : X) → P (get_or xs i d) → (k : ℕ) (e : X) → k < i + 1 → P (get_or xs k e)
each_more P xs i lt h d here k e below =
    elim (cases_lt k i) [
      | inl l ↦ h k e l
      | inr m ↦ (let same : i ≡ k = omega arith in
          subst (λ j. P (get_or xs j e)) same (subst (λ z. P z) (get_or_default xs i d e lt) here))
    ]
