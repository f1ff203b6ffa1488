-- lists by a number, and lists by a test
use Rattle.std.proofs.Common.{◌≡◌, ◌≢◌, ℕ, suc, zero, ◌+◌, ◌≤◌, ◌<◌, ◌==◌, List, [], ◌∷◌, ◌++◌, Bool, true, false, if◌then◌else◌, length, set, get_or, slice_get, unwrap_or, take, refl, sym, ◌∙◌, ap, arith, inl, inr, ◌⊎◌}
use Rattle.std.proofs.lemmas.Bool.{cases_eq}
use Rattle.cpt_layout.specs.Places.{table, kept, In, place_in}

pub either : (b : Bool) → (b ≡ true) ⊎ (b ≡ false)
either true = inl refl
either false = inr refl

pub if_true : {Y : Type 0} (b : Bool) (x y : Y) → b ≡ true → (if b then x else y) ≡ x
if_true b x y h = ap (λ (c : Bool). if c then x else y) h

pub if_false : {Y : Type 0} (b : Bool) (x y : Y) → b ≡ false → (if b then x else y) ≡ y
if_false b x y h = ap (λ (c : Bool). if c then x else y) h

module _ {X : Type 0} where
  pub length-table : (f : ℕ → X) (i n : ℕ) → length (table f i n) ≡ n
  length-table f i zero = refl
  length-table f i (suc n) = ap suc (length-table f (suc i) n)

  pub get-table : (f : ℕ → X) (i n k : ℕ) (d : X) → k < n → unwrap_or (slice_get (table f i n) k) d ≡ f (i + k)
  get-table f i zero k d h = absurd (omega arith)
  get-table f i (suc n) zero d h = ap f (let e : i ≡ i + 0 = omega arith in e)
  get-table f i (suc n) (suc k) d h = get-table f (suc i) n k d (omega arith) ∙ ap f (let e : suc i + k ≡ i + suc k = omega arith in e)

  pub table_same : (f g : ℕ → X) (i n : ℕ) → ((k : ℕ) → i ≤ k → k < i + n → g k ≡ f k) → table g i n ≡ table f i n
  table_same f g i zero h = refl
  table_same f g i (suc n) h =
      let made : X → List X → List X = λ x xs. x ∷ xs in
      ap (λ (x : X). made x (table g (suc i) n)) (h i (omega arith) (omega arith)) ∙ ap (λ (xs : List X). made (f i) xs) (table_same f g (suc i) n (λ k a b. h k (omega arith) (omega arith)))

  pub table_set : (f g : ℕ → X) (i n x : ℕ) → x < n → ((k : ℕ) → i ≤ k → k < i + n → k ≢ i + x → g k ≡ f k) → table g i n ≡ set (table f i n) x (g (i + x))
  table_set f g i zero x l h = absurd (omega arith)
  table_set f g i (suc n) zero l h =
      let made : X → List X → List X = λ x xs. x ∷ xs in
      let e : i ≡ i + 0 = omega arith in
      ap (λ (j : ℕ). made (g j) (table g (suc i) n)) e ∙ ap (λ (xs : List X). made (g (i + 0)) xs) (table_same f g (suc i) n (λ k a b. h k (omega arith) (omega arith) (omega arith)))
  table_set f g i (suc n) (suc x) l h =
      let made : X → List X → List X = λ x xs. x ∷ xs in
      let e : suc i + x ≡ i + suc x = omega arith in
      ap (λ (z : X). made z (table g (suc i) n)) (h i (omega arith) (omega arith) (omega arith))
      ∙ (ap (λ (xs : List X). made (f i) xs) (table_set f g (suc i) n x (omega arith) (λ k a b c. h k (omega arith) (omega arith) (λ d. c (omega arith))))
      ∙ ap (λ (j : ℕ). made (f i) (set (table f (suc i) n) x (g j))) e)

  pub in_table : (f : ℕ → X) (i n : ℕ) (x : X) → In x (table f i n) → (k : ℕ) × (i ≤ k) × (k < i + n) × (f k ≡ x)
  in_table f i zero x h = absurd h
  in_table f i (suc n) x (inl e) = (i, omega arith, omega arith, e)
  in_table f i (suc n) x (inr r) = let t = in_table f (suc i) n x r in (t.0, (let a = t.1 in omega arith), (let a = t.2 in omega arith), t.3)

  pub table_in : (f : ℕ → X) (i n k : ℕ) → i ≤ k → k < i + n → In (f k) (table f i n)
  table_in f i zero k a b = absurd (omega arith)
  table_in f i (suc n) k a b = elim (cases_eq i k) [ inl e ↦ inl (ap f e) | inr d ↦ inr (table_in f (suc i) n k (omega arith) (omega arith)) ]

  pub in_append : (x : X) (xs ys : List X) → In x (xs ++ ys) → In x xs ⊎ In x ys
  in_append x [] ys h = inr h
  in_append x (z ∷ xs) ys (inl e) = inl (inl e)
  in_append x (z ∷ xs) ys (inr r) = elim (in_append x xs ys r) [ inl a ↦ inl (inr a) | inr b ↦ inr b ]

  pub append_in : (x : X) (xs ys : List X) → In x xs ⊎ In x ys → In x (xs ++ ys)
  append_in x [] ys (inl h) = absurd h
  append_in x [] ys (inr h) = h
  append_in x (z ∷ xs) ys (inl (inl e)) = inl e
  append_in x (z ∷ xs) ys (inl (inr r)) = inr (append_in x xs ys (inl r))
  append_in x (z ∷ xs) ys (inr h) = inr (append_in x xs ys (inr h))

  abbrev pub when : Bool → X → List X → List X
  when b x xs = if b then x ∷ xs else xs

  pub kept_same : (f g : X → Bool) (xs : List X) → ((x : X) → In x xs → g x ≡ f x) → kept g xs ≡ kept f xs
  kept_same f g [] h = refl
  kept_same f g (x ∷ xs) h = ap (λ (b : Bool). when b x (kept g xs)) (h x (inl refl)) ∙ ap (λ (ys : List X). when (f x) x ys) (kept_same f g xs (λ y r. h y (inr r)))

  pub get_at : (f : ℕ → X) (i n k : ℕ) (d : X) → k < n → get_or (table f i n) k d ≡ f (i + k)
  get_at f i zero k d h = absurd (omega arith)
  get_at f i (suc n) zero d h = ap f (let e : i ≡ i + 0 = omega arith in e)
  get_at f i (suc n) (suc k) d h = get_at f (suc i) n k d (omega arith) ∙ ap f (let e : suc i + k ≡ i + suc k = omega arith in e)

  pub table_snoc : (f : ℕ → X) (i n : ℕ) → table f i (suc n) ≡ table f i n ++ f (i + n) ∷ []
  table_snoc f i zero = ap (λ (j : ℕ). f j ∷ []) (let e : i ≡ i + 0 = omega arith in e)
  table_snoc f i (suc n) = ap (λ (xs : List X). f i ∷ xs) (table_snoc f (suc i) n ∙ ap (λ (j : ℕ). table f (suc i) n ++ f j ∷ []) (let e : suc i + n ≡ i + suc n = omega arith in e))

  pub take_table : (f : ℕ → X) (i n m : ℕ) → n ≤ m → take n (table f i m) ≡ table f i n
  take_table f i zero zero l = refl
  take_table f i zero (suc m) l = refl
  take_table f i (suc n) zero l = absurd (omega arith)
  take_table f i (suc n) (suc m) l = ap (λ (xs : List X). f i ∷ xs) (take_table f (suc i) n m (omega arith))

-- the first that is p
pub first_place : (p : ℕ) (xs : List ℕ) (i : ℕ) → i ≤ length xs → ((k : ℕ) → k < i → (get_or xs k 0 == p) ≡ false) → (i < length xs → (get_or xs i 0 == p) ≡ true) → i ≡ place_in p xs
first_place p [] i l h t = omega arith
first_place p (x ∷ xs) zero l h t = sym (if_true (x == p) 0 (suc (place_in p xs)) (t (omega arith)))
first_place p (x ∷ xs) (suc i) l h t = ap suc (first_place p xs i (omega arith) (λ k r. h (suc k) (omega arith)) (λ r. t (omega arith))) ∙ sym (if_false (x == p) 0 (suc (place_in p xs)) (h 0 (omega arith)))
