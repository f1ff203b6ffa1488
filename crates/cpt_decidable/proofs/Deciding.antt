-- how facts that are made of decidable ones are decided
use Rattle.std.proofs.Common.{◌≡◌, ℕ, zero, suc, ◌<◌, ◌≤◌, ◌⊎◌, inl, inr, Bool, true, false, List, [], ◌∷◌, length, get_or, All, Contains, refl, sym, subst, arith}
use Rattle.std.proofs.lemmas.Bool.{cases_lt, cases_eq}
use Rattle.std.proofs.lemmas.List.Elements.{All-nil, All-cons, All-head, All-tail, All-contains, Contains-get_or}
use Rattle.cpt_decidable.specs.Decidable.{IsDecidable}

-- a fact that comes to another
pub like : {P Q : Type 0} → (P → Q) → (Q → P) → IsDecidable P → IsDecidable Q
like f g (inl p) = inl (f p)
like f g (inr n) = inr (λ q. n (g q))

pub both : {P Q : Type 0} → IsDecidable P → IsDecidable Q → IsDecidable (P × Q)
both (inl p) (inl q) = inl (p, q)
both (inl p) (inr n) = inr (λ h. n h.1)
both (inr n) d = inr (λ h. n h.0)

pub either : {P Q : Type 0} → IsDecidable P → IsDecidable Q → IsDecidable (P ⊎ Q)
either (inl p) d = inl (inl p)
either (inr n) (inl q) = inl (inr q)
either (inr n) (inr m) = inr (λ h. elim h [ inl p ↦ n p | inr q ↦ m q ])

pub denied : {P : Type 0} → IsDecidable P → IsDecidable (P → ⊥)
denied (inl p) = inr (λ n. n p)
denied (inr n) = inl n

pub implied : {P Q : Type 0} → IsDecidable P → IsDecidable Q → IsDecidable (P → Q)
implied (inl p) (inl q) = inl (λ _. q)
implied (inl p) (inr n) = inr (λ f. n (f p))
implied (inr n) d = inl (λ p. absurd (n p))

-- numbers and tests
pub is_less : (a b : ℕ) → IsDecidable (a < b)
is_less a b = elim (cases_lt a b) [ inl l ↦ inl l | inr m ↦ inr (λ l. omega (arith, l, m)) ]

pub is_at_most : (a b : ℕ) → IsDecidable (a ≤ b)
is_at_most a b = elim (cases_lt b a) [ inl l ↦ inr (λ m. omega (arith, l, m)) | inr m ↦ inl m ]

pub is_equal : (a b : ℕ) → IsDecidable (a ≡ b)
is_equal a b = cases_eq a b

pub is_test : (b c : Bool) → IsDecidable (b ≡ c)
is_test true true = inl refl
is_test true false = inr (λ e. absurd (cc))
is_test false true = inr (λ e. absurd (cc))
is_test false false = inl refl

module _ {X : Type 0} (P : X → Type 0) (known : (x : X) → IsDecidable (P x)) where
  -- each of a list
  pub are_all : (xs : List X) → IsDecidable (All P xs)
  are_all [] = inl (All-nil P)
  are_all (x ∷ xs) = go (known x) (are_all xs)
    where
      go : IsDecidable (P x) → IsDecidable (All P xs) → IsDecidable (All P (x ∷ xs))
      go (inl p) (inl q) = inl (All-cons P x xs p q)
      go (inl p) (inr n) = inr (λ h. n (All-tail P x xs h))
      go (inr n) d = inr (λ h. n (All-head P x xs h))

  pub are_all_in : (xs : List X) → IsDecidable ((x : X) → Contains xs x → P x)
  are_all_in xs = like (λ h x has. All-contains P xs x h has) (λ h k d lt. h (get_or xs k d) (Contains-get_or xs k d lt)) (are_all xs)

  -- one of a list
  pub is_some_in : (xs : List X) → IsDecidable ((x : X) × Contains xs x × P x)
  is_some_in [] = inr (λ h. let lt = h.1.1 in omega (arith, lt))
  is_some_in (x ∷ xs) = go (known x) (is_some_in xs)
    where
      go : IsDecidable (P x) → IsDecidable ((y : X) × Contains xs y × P y) → IsDecidable ((y : X) × Contains (x ∷ xs) y × P y)
      go (inl p) d = inl (x, (0, omega arith, refl), p)
      go (inr n) (inl h) = let lt = h.1.1 in inl (h.0, (suc h.1.0, omega (arith, lt), h.1.2), h.2)
      go (inr n) (inr m) = inr (λ h. none h.0 h.1.0 h.1.1 h.1.2 h.2)
        where
          none : (y : X) (k : ℕ) → k < length (x ∷ xs) → get_or (x ∷ xs) k y ≡ y → P y → ⊥
          none y zero lt e p = n (subst P (sym e) p)
          none y (suc k) lt e p = m (y, (k, omega (arith, lt), e), p)

-- a number in a list
pub is_in_list : (xs : List ℕ) (p : ℕ) → IsDecidable (Contains xs p)
is_in_list xs p = like (λ h. subst (Contains xs) h.2 h.1) (λ h. (p, h, refl)) (is_some_in (λ x. x ≡ p) (λ x. is_equal x p) xs)

module _ (P : ℕ → Type 0) (known : (k : ℕ) → IsDecidable (P k)) where
  -- the first number below n, or none is there
  pub first_below : (n : ℕ) → ((k : ℕ) × (k < n) × P k × ((j : ℕ) → j < k → P j → ⊥)) ⊎ ((k : ℕ) → k < n → P k → ⊥)
  first_below zero = inr (λ k lt _. omega (arith, lt))
  first_below (suc n) = go (first_below n) (known n)
    where
      go : (((k : ℕ) × (k < n) × P k × ((j : ℕ) → j < k → P j → ⊥)) ⊎ ((k : ℕ) → k < n → P k → ⊥)) → IsDecidable (P n) → ((k : ℕ) × (k < suc n) × P k × ((j : ℕ) → j < k → P j → ⊥)) ⊎ ((k : ℕ) → k < suc n → P k → ⊥)
      go (inl h) d = let lt = h.1 in inl (h.0, omega (arith, lt), h.2, h.3)
      go (inr none) (inl p) = inl (n, omega arith, p, none)
      go (inr none) (inr m) = inr (λ k lt p. elim (cases_eq k n) [ inl e ↦ m (subst P e p) | inr ne ↦ none k (omega (arith, lt, ne)) p ])

  pub is_some_below : (n : ℕ) → IsDecidable ((k : ℕ) × (k < n) × P k)
  is_some_below n = elim (first_below n) [ inl h ↦ inl (h.0, h.1, h.2) | inr none ↦ inr (λ h. none h.0 h.1 h.2) ]

-- each number below n
pub are_all_below : (P : ℕ → Type 0) → ((k : ℕ) → IsDecidable (P k)) → (n : ℕ) → IsDecidable ((k : ℕ) → k < n → P k)
are_all_below P known n = go (is_some_below (λ k. P k → ⊥) (λ k. denied (known k)) n)
  where
    go : IsDecidable ((k : ℕ) × (k < n) × (P k → ⊥)) → IsDecidable ((k : ℕ) → k < n → P k)
    go (inl h) = inr (λ all. h.2 (all h.0 h.1))
    go (inr none) = inl (λ k lt. elim (known k) [ inl p ↦ p | inr m ↦ absurd (none (k, lt, m)) ])
