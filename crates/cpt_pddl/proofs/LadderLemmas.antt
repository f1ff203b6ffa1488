use Rattle.std.proofs.Common.{◌≡◌, ◌≢◌, ◌∙◌, zero, suc, ℕ, ◌+◌, ◌-◌, ◌*◌, ◌/◌, ◌%◌, ◌^◌, ◌<◌, ◌≤◌, nat_eq, nat_le, Bool, ◌&&◌, true, List, [], ◌∷◌, ◌++◌, map, length, get_or, slice_index, inl, inr, refl, sym, ap, ap₂, pow_pos, add-mul, mul-add, zero-mul, mul-one, mul-le-mul_right, one-mul, suc-mul, arith}
use Rattle.std.specs.Prelude.{if◌then◌else◌}
use Rattle.std.specs.List.{list_all}
use Rattle.std.proofs.Math.Nat.{two-pow-succ}
use Rattle.std.proofs.lemmas.Bool.{cases_lt}
use Rattle.std.proofs.lemmas.List.{get_or-map, get_or_past, length-map, length_push}
use Rattle.cpt_pddl.specs.Kinds.{climbs, is_below, is_rooted}
use Rattle.cpt_pddl.specs.Ladders.{AreHeights, AreRows, IsRow, above, height, lifted}
use Rattle.cpt_pddl.proofs.ClimbLemmas.{above_add, above_zero, below_by_heights, climbs_to_zero, height_add, height_high, height_low, height_within, settled, test_equal, zero_or}
use Rattle.cpt_pddl.proofs.KindLemmas.{differs}

-- the types twice as many steps up as those of a row
doubled_row : (parents : List ℕ) (m : ℕ) (row : List ℕ) → slice_index parents 0 ≡ 0 → IsRow parents m row → IsRow parents (m + m) (map (λ k. slice_index row k) row)
doubled_row parents m row root h k =
    elim (cases_lt k (length row)) [
      | inl lt ↦
          get_or-map (λ k. slice_index row k) row k 0 0 lt ∙ h (slice_index row k) ∙ ap (above m parents) (h k) ∙ sym (above_add parents m m k)
      | inr le ↦
          let none : slice_index row k ≡ 0 = get_or_past row k 0 le in
          let top : above m parents k ≡ 0 = sym (h k) ∙ none in
          get_or_past (map (λ k. slice_index row k) row) k 0 (let n = length-map row (λ k. slice_index row k) in omega (arith, n, le))
          ∙ sym (above_add parents m m k ∙ ap (above m parents) top ∙ above_zero parents m root)
    ]

-- one row more
rows_push : (parents : List ℕ) (m : ℕ) (rows : List (List ℕ)) (row : List ℕ) → AreRows parents m rows → IsRow parents (2 ^ length rows * m) row → AreRows parents m (rows ++ row ∷ [])
rows_push parents m [] row h last = (λ k. last k ∙ ap (λ s. above s parents k) (one-mul m), tt)
rows_push parents m (first ∷ rows) row h last =
    let twice : 2 ^ length (first ∷ rows) * m ≡ 2 ^ length rows * (m + m) =
    ap (λ s. s * m) (two-pow-succ (length rows)) ∙ add-mul (2 ^ length rows) (2 ^ length rows) m ∙ sym (mul-add (2 ^ length rows) m m) in
    (h.0, rows_push parents (m + m) rows row h.1 (λ k. last k ∙ ap (λ s. above s parents k) twice))

pub rows_more : (parents : List ℕ) (rows : List (List ℕ)) (row : List ℕ) → AreRows parents 1 rows → IsRow parents (2 ^ length rows) row → AreRows parents 1 (rows ++ row ∷ [])
rows_more parents rows row h last = rows_push parents 1 rows row h (λ k. last k ∙ ap (λ s. above s parents k) (sym (mul-one (2 ^ length rows))))

-- the row that comes next
pub row_next : (parents : List ℕ) (rows : List (List ℕ)) (row : List ℕ) → slice_index parents 0 ≡ 0 → IsRow parents (2 ^ length rows) row
    → IsRow parents (2 ^ length (rows ++ row ∷ [])) (map (λ k. slice_index row k) row)
row_next parents rows row root h k =
    let more : 2 ^ length rows + 2 ^ length rows ≡ 2 ^ length (rows ++ row ∷ []) =
    sym (two-pow-succ (length rows)) ∙ ap (λ n. 2 ^ n) (let e = length_push rows row in let f : suc (length rows) ≡ length (rows ++ row ∷ []) = omega (arith, e) in f) in
    doubled_row parents (2 ^ length rows) row root h k ∙ ap (λ s. above s parents k) more

-- with one row more, half as many are left
pub few_more : {X : Type 0} (n left : ℕ) (rows : List X) (row : X) → n < (left + 1) * 2 ^ length rows → n < (left / 2 + 1) * 2 ^ length (rows ++ row ∷ [])
few_more n left rows row lt =
    let p : ℕ = 2 ^ length rows in
    let long : length (rows ++ row ∷ []) ≡ suc (length rows) = let e = length_push rows row in omega (arith, e) in
    let double : 2 ^ length (rows ++ row ∷ []) ≡ p + p = ap (λ n. 2 ^ n) long ∙ two-pow-succ (length rows) in
    let half : ℕ = left / 2 + 1 in
    let whole : half * 2 ^ length (rows ++ row ∷ []) ≡ (half + half) * p = ap (λ n. half * n) double ∙ mul-add half p p ∙ sym (add-mul half half p) in
    let more : (left + 1) * p ≤ (half + half) * p = mul-le-mul_right p (omega arith) in
    omega (arith, lt, whole, more)

-- a row of some rows
row_in : (parents : List ℕ) (m : ℕ) (rows : List (List ℕ)) (i : ℕ) → AreRows parents m rows → i < length rows → IsRow parents (2 ^ i * m) (get_or rows i [])
row_in parents m [] i h lt k = absurd (omega (arith, lt))
row_in parents m (row ∷ rows) zero h lt k = h.0 k ∙ ap (λ s. above s parents k) (sym (one-mul m))
row_in parents m (row ∷ rows) (suc i) h lt k =
    let twice : 2 ^ i * (m + m) ≡ 2 ^ suc i * m = sym (ap (λ s. s * m) (two-pow-succ i) ∙ add-mul (2 ^ i) (2 ^ i) m ∙ sym (mul-add (2 ^ i) m m)) in
    row_in parents (m + m) rows i h.1 (omega (arith, lt)) k ∙ ap (λ s. above s parents k) twice

-- rows that go far enough lead so many steps up
lifted_by : (parents : List ℕ) (m : ℕ) (rows : List (List ℕ)) (d k : ℕ) → AreRows parents m rows → d < 2 ^ length rows → lifted rows d k ≡ above (d * m) parents k
lifted_by parents m [] d k h lt =
    let none : 0 ≡ d = omega (arith, lt) in
    ap (λ s. above s parents k) (sym (zero-mul m) ∙ ap (λ n. n * m) none)
lifted_by parents m (row ∷ rows) d k h lt =
    let q : ℕ = d / 2 in
    let room = two-pow-succ (length rows) in
    let less : q < 2 ^ length rows = omega (arith, lt, room) in
    let double : q * (m + m) ≡ (q + q) * m = mul-add q m m ∙ sym (add-mul q q m) in
    let by : (r : ℕ) → d % 2 ≡ r → lifted (row ∷ rows) d k ≡ above (d * m) parents k = λ r e. elim (zero_or r) [
      | inl z ↦
          let even : d % 2 ≡ 0 = e ∙ z in
          let whole : q + q ≡ d = omega (arith, even) in
          ap (λ b. lifted rows q (if b then k else slice_index row k)) (test_equal (d % 2) 0 even)
          ∙ lifted_by parents (m + m) rows q k h.1 less ∙ ap (λ s. above s parents k) (double ∙ ap (λ n. n * m) whole)
      | inr o ↦
          let odd : d % 2 ≢ 0 = λ z. o (sym e ∙ z) in
          let whole : suc (q + q) ≡ d = omega (arith, odd) in
          let split : m + q * (m + m) ≡ d * m = let a = suc-mul (q + q) m in let b = ap (λ n. n * m) whole in omega (arith, double, a, b) in
          ap (λ b. lifted rows q (if b then k else slice_index row k)) (differs (d % 2) 0 odd)
          ∙ lifted_by parents (m + m) rows q (slice_index row k) h.1 less ∙ ap (above (q * (m + m)) parents) (h.0 k)
          ∙ sym (above_add parents m (q * (m + m)) k) ∙ ap (λ s. above s parents k) split
    ] in
    by (d % 2) refl

lifted_above : (parents : List ℕ) (rows : List (List ℕ)) (d k : ℕ) → AreRows parents 1 rows → d < 2 ^ length rows → lifted rows d k ≡ above d parents k
lifted_above parents rows d k h lt = lifted_by parents 1 rows d k h lt ∙ ap (λ s. above s parents k) (mul-one d)

-- a test of all, by another test with the same answers
all_same : (p q : ℕ → Bool) (xs : List ℕ) → ((x : ℕ) → p x ≡ q x) → list_all p xs ≡ list_all q xs
all_same p q [] h = refl
all_same p q (x ∷ xs) h = ap (λ b. b && list_all p xs) (h x) ∙ ap (λ b. q x && b) (all_same p q xs h)

-- whether there is a root, told by rows that go far enough
pub root_by_rows : (parents : List ℕ) (rows : List (List ℕ)) → slice_index parents 0 ≡ 0 → AreRows parents 1 rows → length parents < 2 ^ length rows
    → list_all (λ parent. nat_eq (lifted rows (length parents) parent) 0) parents ≡ is_rooted parents
unfolding is_below is_rooted
root_by_rows parents rows root h lt =
    let n : ℕ = length parents in
    all_same (λ parent. nat_eq (lifted rows n parent) 0) (λ parent. climbs n parents parent 0) parents
    (λ k. ap (λ p. nat_eq p 0) (lifted_above parents rows n k h lt) ∙ sym (climbs_to_zero n parents k root))
    ∙ ap (λ b. b && list_all (λ parent. climbs n parents parent 0) parents) (sym (test_equal (slice_index parents 0) 0 root))

-- heights in one step
pub heights_first : (parents heights : List ℕ) → heights ≡ map (λ parent. if nat_eq parent 0 then 0 else 1) parents → AreHeights parents 1 heights
heights_first parents heights e k =
    let f : ℕ → ℕ = λ parent. if nat_eq parent 0 then 0 else 1 in
    ap (λ hs. slice_index hs k) e ∙
    elim (cases_lt k (length parents)) [
      | inl lt ↦ get_or-map f parents k 0 0 lt
      | inr le ↦
          get_or_past (map f parents) k 0 (let n = length-map parents f in omega (arith, n, le))
          ∙ ap f (sym (get_or_past parents k 0 le))
    ]

-- a height in twice as many steps
height_twice : (parents : List ℕ) (m : ℕ) (row heights : List ℕ) (k : ℕ) → slice_index parents 0 ≡ 0 → IsRow parents m row → AreHeights parents m heights
    → slice_index heights k + slice_index heights (slice_index row k) ≡ height (m + m) parents k
height_twice parents m row heights k root h e =
    let a = e k in
    let b = e (slice_index row k) in
    let c = ap (height m parents) (h k) in
    let d = height_add parents m m k root in
    omega (arith, a, b, c, d)

-- heights fit
pub heights_fit : (parents : List ℕ) (m : ℕ) (row heights : List ℕ) (k : ℕ) → length parents < 2 ^ 32 → is_rooted parents ≡ true → IsRow parents m row → AreHeights parents m heights
    → slice_index heights k + slice_index heights (slice_index row k) < 2 ^ 32
heights_fit parents m row heights k few there h e =
    let s = settled parents there in
    let a = height_twice parents m row heights k s.root h e in
    let b = height_within parents (length parents) (m + m) k s.root (s.ends k) in
    omega (arith, few, a, b)

-- heights in twice as many steps
heights_twice : (parents : List ℕ) (m : ℕ) (row heights next : List ℕ) → slice_index parents 0 ≡ 0 → 0 < m → IsRow parents m row → AreHeights parents m heights
    → length next ≡ length heights → ((k : ℕ) → k < length heights → slice_index next k ≡ slice_index heights k + slice_index heights (slice_index row k)) → AreHeights parents (m + m) next
heights_twice parents m row heights next root some h e long each k =
    elim (cases_lt k (length heights)) [
      | inl lt ↦ each k lt ∙ height_twice parents m row heights k root h e
      | inr le ↦
          let none : height m parents k ≡ 0 = sym (e k) ∙ get_or_past heights k 0 le in
          let one : m ≡ suc (m - 1) = omega (arith, some) in
          let low : slice_index parents k ≡ 0 = elim (zero_or (slice_index parents k)) [
            | inl z ↦ z
            | inr high ↦ absurd (let a = height_high parents (m - 1) k high in let b = ap (λ n. height n parents k) one in omega (arith, none, a, b))
          ] in
          let two : m + m ≡ suc (m + m - 1) = omega (arith, some) in
          get_or_past next k 0 (omega (arith, long, le)) ∙ sym (ap (λ n. height n parents k) two ∙ height_low parents (m + m - 1) k low)
    ]

-- a row of the rows
pub row_at : (parents : List ℕ) (rows : List (List ℕ)) (i : ℕ) (row : List ℕ) → AreRows parents 1 rows → i < length rows → row ≡ get_or rows i [] → IsRow parents (2 ^ i) row
row_at parents rows i row h lt at k =
    ap (λ r. slice_index r k) at ∙ row_in parents 1 rows i h lt k ∙ ap (λ n. above n parents k) (mul-one (2 ^ i))

-- one row further, the heights are those in twice as many steps
pub heights_more : (parents : List ℕ) (rows : List (List ℕ)) (i : ℕ) (row heights next : List ℕ) → is_rooted parents ≡ true → AreRows parents 1 rows → i < length rows → row ≡ get_or rows i []
    → AreHeights parents (2 ^ i) heights → length next ≡ length heights
    → ((k : ℕ) → k < length heights → slice_index next k ≡ slice_index heights k + slice_index heights (slice_index row k)) → AreHeights parents (2 ^ (i + 1)) next
heights_more parents rows i row heights next there h lt at e long each k =
    let s = settled parents there in
    heights_twice parents (2 ^ i) row heights next s.root (pow_pos i) (row_at parents rows i row h lt at) e long each k
    ∙ ap (λ n. height n parents k) (sym (ap (λ n. 2 ^ n) (let f : i + 1 ≡ suc i = omega arith in f) ∙ two-pow-succ i))

-- a type is below type 0, told by the rows
pub below_zero : (parents : List ℕ) (rows : List (List ℕ)) (k : ℕ) → is_rooted parents ≡ true → AreRows parents 1 rows → length parents < 2 ^ length rows
    → nat_eq (lifted rows (length parents) k) 0 ≡ is_below parents k 0
unfolding is_below is_rooted
below_zero parents rows k there h lt =
    ap (λ p. nat_eq p 0) (lifted_above parents rows (length parents) k h lt) ∙ sym (climbs_to_zero (length parents) parents k (settled parents there).root)

-- a type is below another, told by heights and rows
pub below_other : (parents : List ℕ) (rows : List (List ℕ)) (heights : List ℕ) (k w : ℕ) → is_rooted parents ≡ true → AreRows parents 1 rows → length parents < 2 ^ length rows
    → AreHeights parents (2 ^ length rows) heights → w ≢ 0
    → (nat_le (slice_index heights w) (slice_index heights k) && nat_eq (lifted rows (slice_index heights k - slice_index heights w) k) w) ≡ is_below parents k w
unfolding is_below is_rooted
below_other parents rows heights k w there h lt e high =
    let s = settled parents there in
    let m : ℕ = 2 ^ length rows in
    let within = height_within parents (length parents) m k s.root (s.ends k) in
    let of_k = e k in
    let less : slice_index heights k - slice_index heights w < m = omega (arith, of_k, within, lt) in
    ap (λ p. nat_le (slice_index heights w) (slice_index heights k) && nat_eq p w) (lifted_above parents rows (slice_index heights k - slice_index heights w) k h less)
    ∙ ap₂ (λ a b. nat_le a b && nat_eq (above (b - a) parents k) w) (e w) (e k)
    ∙ sym (below_by_heights (length parents) m parents k w s lt high)
