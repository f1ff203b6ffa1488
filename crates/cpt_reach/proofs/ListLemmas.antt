use Rattle.std.proofs.Common.{◌≡◌, ℕ, ◌+◌, ◌<◌, ◌⊎◌, inl, inr, List, [], ◌∷◌, ◌++◌, length, get_or, All, Contains, sym, subst, arith, length-append}
use Rattle.std.specs.List.Sorted.{IsStrictlyIncreasing}
use Rattle.std.proofs.lemmas.Grind.{common_steps}
use Rattle.std.proofs.lemmas.List.Elements.{All-push, All-weaker, Contains-push, Contains-append_left}
use Rattle.cpt_reach.specs.Kept.{IsListOf}

at_push : (xs : List ℕ) (x k : ℕ) → k < length xs → get_or (xs ++ x ∷ []) k 0 ≡ get_or xs k 0
at_push xs x k lt = grind (arith, common_steps)

at_pushed : (xs : List ℕ) (x k : ℕ) → k ≡ length xs → get_or (xs ++ x ∷ []) k 0 ≡ x
at_pushed xs x k e = grind (arith, common_steps)

inside_or_last : (k n : ℕ) → k + 1 < n + 1 → (k + 1 < n) ⊎ ((k < n) × (k + 1 ≡ n))
inside_or_last k n lt = grind arith

increasing-push : (xs : List ℕ) (x : ℕ) → IsStrictlyIncreasing xs → All (λ p. p < x) xs → IsStrictlyIncreasing (xs ++ x ∷ [])
increasing-push xs x inc low k lt =
    elim (inside_or_last k (length xs) (omega (arith, lt, length-append xs (x ∷ [])))) [
      | inl inside ↦ let step : get_or xs k 0 < get_or xs (k + 1) 0 = inc k inside in
          omega (arith, step, at_push xs x k (omega arith), at_push xs x (k + 1) inside)
      | inr last ↦ let step : get_or xs k 0 < x = low k 0 last.0 in
          omega (arith, step, at_push xs x k last.0, at_pushed xs x (k + 1) last.1)
    ]

-- no number is below 0
pub list_start : (Q : ℕ → Type 0) → IsListOf (λ p. (p < 0) × Q p) []
list_start Q = record { increasing = λ k lt. absurd (omega arith); sound = λ k d lt. absurd (omega arith); whole = λ p h. absurd (omega (arith, h.0)) }

before_or_here : (b a : ℕ) → b < a + 1 → (b < a) ⊎ (b ≡ a)
before_or_here b a lt = grind arith

-- one more number, of which Q holds
pub list_push : (Q : ℕ → Type 0) (xs : List ℕ) (i : ℕ) → IsListOf (λ p. (p < i) × Q p) xs → Q i → IsListOf (λ p. (p < i + 1) × Q p) (xs ++ i ∷ [])
list_push Q xs i list here = record {
  increasing = increasing-push xs i list.increasing (λ k d lt. (list.sound k d lt).0);
  sound = All-push (λ p. (p < i + 1) × Q p) xs i (λ k d lt. let h = list.sound k d lt in (omega (arith, h.0), h.1)) (omega arith, here);
  whole = λ p h. elim (before_or_here p i h.0) [
    | inl less ↦ Contains-append_left xs (i ∷ []) p (list.whole p (less, h.1))
    | inr same ↦ subst (λ q. Contains (xs ++ i ∷ []) q) (sym same) (Contains-push xs i)
  ];
}

-- one more number, of which Q does not hold
pub list_skip : (Q : ℕ → Type 0) (xs : List ℕ) (i : ℕ) → IsListOf (λ p. (p < i) × Q p) xs → (Q i → ⊥) → IsListOf (λ p. (p < i + 1) × Q p) xs
list_skip Q xs i list none = record {
  increasing = list.increasing;
  sound = λ k d lt. let h = list.sound k d lt in (omega (arith, h.0), h.1);
  whole = λ p h. elim (before_or_here p i h.0) [
    | inl less ↦ list.whole p (less, h.1)
    | inr same ↦ absurd (none (subst Q same h.1))
  ];
}

-- the list of what means the same
pub list_as : (P R : ℕ → Type 0) (xs : List ℕ) → ((p : ℕ) → P p → R p) → ((p : ℕ) → R p → P p) → IsListOf P xs → IsListOf R xs
list_as P R xs to back list = record { increasing = list.increasing; sound = All-weaker P R to xs list.sound; whole = λ p h. list.whole p (back p h) }
