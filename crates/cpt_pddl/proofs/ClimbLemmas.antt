use Rattle.std.proofs.Common.{◌≡◌, ◌≢◌, ◌∙◌, ◌⊎◌, zero, suc, ℕ, ◌+◌, ◌-◌, ◌<◌, ◌≤◌, nat_eq, nat_le, Bool, true, false, ◌&&◌, List, length, slice_index, inl, inr, refl, sym, ap, le-leb, arith}
use Rattle.std.specs.Prelude.{if◌then◌else◌}
use Rattle.std.specs.List.{list_all}
use Rattle.std.proofs.lemmas.Bool.{and_from, and_parts, cases_lt}
use Rattle.std.proofs.lemmas.Bool.Decides.{nat_tests}
use Rattle.std.proofs.lemmas.List.{get_or_past}
use Rattle.std.proofs.lemmas.List.Elements.{All-get_or}
use Rattle.std.proofs.lemmas.List.Sums.{AllPass-from_list_all}
use Rattle.cpt_pddl.specs.Kinds.{climbs, is_below, is_rooted}
use Rattle.cpt_pddl.specs.Ladders.{above, height}
use Rattle.cpt_pddl.proofs.KindLemmas.{differs}

-- where type 0 is its own parent, nothing else is above it
pub above_zero : (parents : List ℕ) (s : ℕ) → slice_index parents 0 ≡ 0 → above s parents 0 ≡ 0
above_zero parents zero root = refl
above_zero parents (suc s) root = ap (above s parents) root ∙ above_zero parents s root

pub above_add : (parents : List ℕ) (s t k : ℕ) → above (s + t) parents k ≡ above t parents (above s parents k)
above_add parents zero t k = ap (λ n. above n parents k) (let e : 0 + t ≡ t = omega arith in e)
above_add parents (suc s) t k = ap (λ n. above n parents k) (let e : suc s + t ≡ suc (s + t) = omega arith in e) ∙ above_add parents s t (slice_index parents k)

height_zero : (parents : List ℕ) (s : ℕ) → slice_index parents 0 ≡ 0 → height s parents 0 ≡ 0
height_zero parents zero root = refl
height_zero parents (suc s) root = ap (λ p. if nat_eq p 0 then 0 else suc (height s parents p)) root

-- the height where the parent is type 0, and where it is another
pub height_low : (parents : List ℕ) (s k : ℕ) → slice_index parents k ≡ 0 → height (suc s) parents k ≡ 0
height_low parents s k low = ap (λ p. if nat_eq p 0 then 0 else suc (height s parents p)) low

pub height_high : (parents : List ℕ) (s k : ℕ) → slice_index parents k ≢ 0 → height (suc s) parents k ≡ suc (height s parents (slice_index parents k))
height_high parents s k high = ap (λ b. if b then 0 else suc (height s parents (slice_index parents k))) (differs (slice_index parents k) 0 high)

pub zero_or : (n : ℕ) → (n ≡ 0) ⊎ (n ≢ 0)
zero_or zero = inl refl
zero_or (suc n) = inr (λ e. omega (arith, e))

pub height_add : (parents : List ℕ) (s t k : ℕ) → slice_index parents 0 ≡ 0 → height (s + t) parents k ≡ height s parents k + height t parents (above s parents k)
height_add parents zero t k root = ap (λ n. height n parents k) (let e : 0 + t ≡ t = omega arith in e) ∙ (let e : height t parents k ≡ 0 + height t parents k = omega arith in e)
height_add parents (suc s) t k root =
    let more : suc s + t ≡ suc (s + t) = omega arith in
    ap (λ n. height n parents k) more ∙
    elim (zero_or (slice_index parents k)) as (λ _. height (suc (s + t)) parents k ≡ height (suc s) parents k + height t parents (above s parents (slice_index parents k))) [
      | inl low ↦
          let a = height_low parents (s + t) k low in
          let b = height_low parents s k low in
          let c : height t parents (above s parents (slice_index parents k)) ≡ 0 = ap (λ p. height t parents (above s parents p)) low ∙ ap (height t parents) (above_zero parents s root) ∙ height_zero parents t root in
          omega (arith, a, b, c)
      | inr high ↦
          let a = height_high parents (s + t) k high in
          let b = height_high parents s k high in
          let c = height_add parents s t (slice_index parents k) root in
          omega (arith, a, b, c)
    ]

-- a height is full where the steps do not come to type 0
height_full : (parents : List ℕ) (j k : ℕ) → slice_index parents 0 ≡ 0 → above j parents k ≢ 0 → height j parents k ≡ j
height_full parents zero k root high = refl
height_full parents (suc j) k root high =
    let parent : slice_index parents k ≢ 0 = λ low. high (ap (above j parents) low ∙ above_zero parents j root) in
    height_high parents j k parent ∙ ap suc (height_full parents j (slice_index parents k) root high)

-- a height is less than the steps that come to type 0
pub height_within : (parents : List ℕ) (n s k : ℕ) → slice_index parents 0 ≡ 0 → above (suc n) parents k ≡ 0 → height s parents k ≤ n
height_within parents n zero k root none = omega arith
height_within parents zero (suc s) k root none = let a = height_low parents s k none in omega (arith, a)
height_within parents (suc n) (suc s) k root none =
    elim (zero_or (slice_index parents k)) [
      | inl low ↦ let a = height_low parents s k low in omega (arith, a)
      | inr high ↦
          let a = height_high parents s k high in
          let b = height_within parents n s (slice_index parents k) root none in
          omega (arith, a, b)
    ]

same_tests : (a b : Bool) → (a ≡ true → b ≡ true) → (b ≡ true → a ≡ true) → a ≡ b
same_tests true true f g = refl
same_tests true false f g = absurd (let e = f refl in cc)
same_tests false true f g = absurd (let e = g refl in cc)
same_tests false false f g = refl

equal_test : (a b : ℕ) → nat_eq a b ≡ true → a ≡ b
equal_test a b h = grind (arith, nat_tests)

pub test_equal : (a b : ℕ) → a ≡ b → nat_eq a b ≡ true
test_equal a b h = grind (arith, nat_tests)

equal_or : (a b : ℕ) → (a ≡ b) ⊎ (a ≢ b)
equal_or a b = by (nat_eq a b) refl
  where
    by : (t : Bool) → nat_eq a b ≡ t → (a ≡ b) ⊎ (a ≢ b)
    by true e = inl (equal_test a b e)
    by false e = inr (λ f. let g = test_equal a b f in cc)

-- a climb that is there, one that is not, and one that goes on
climbs_here : (s : ℕ) (parents : List ℕ) (k w : ℕ) → k ≡ w → climbs s parents k w ≡ true
climbs_here zero parents k w h = test_equal k w h
climbs_here (suc s) parents k w h = ap (λ b. if b then true else if nat_eq k 0 then false else climbs s parents (slice_index parents k) w) (test_equal k w h)

climbs_none : (s : ℕ) (parents : List ℕ) (k w : ℕ) → k ≢ w → k ≡ 0 → climbs (suc s) parents k w ≡ false
climbs_none s parents k w h z =
    ap (λ b. if b then true else if nat_eq k 0 then false else climbs s parents (slice_index parents k) w) (differs k w h)
    ∙ ap (λ b. if b then false else climbs s parents (slice_index parents k) w) (test_equal k 0 z)

climbs_on : (s : ℕ) (parents : List ℕ) (k w : ℕ) → k ≢ w → k ≢ 0 → climbs (suc s) parents k w ≡ climbs s parents (slice_index parents k) w
climbs_on s parents k w h z =
    ap (λ b. if b then true else if nat_eq k 0 then false else climbs s parents (slice_index parents k) w) (differs k w h)
    ∙ ap (λ b. if b then false else climbs s parents (slice_index parents k) w) (differs k 0 z)

-- a climb to type 0
pub climbs_to_zero : (s : ℕ) (parents : List ℕ) (k : ℕ) → slice_index parents 0 ≡ 0 → climbs s parents k 0 ≡ nat_eq (above s parents k) 0
climbs_to_zero zero parents k root = refl
climbs_to_zero (suc s) parents k root =
    elim (zero_or k) [
      | inl z ↦ climbs_here (suc s) parents k 0 z ∙ sym (test_equal (above (suc s) parents k) 0 (ap (above (suc s) parents) z ∙ above_zero parents (suc s) root))
      | inr high ↦ climbs_on s parents k 0 high high ∙ climbs_to_zero s parents (slice_index parents k) root
    ]

-- a type that so many steps come to is found
climbs_reach : (s j : ℕ) (parents : List ℕ) (k w : ℕ) → slice_index parents 0 ≡ 0 → w ≢ 0 → j ≤ s → above j parents k ≡ w → climbs s parents k w ≡ true
climbs_reach s zero parents k w root high le e = climbs_here s parents k w e
climbs_reach zero (suc j) parents k w root high le e = absurd (omega (arith, le))
climbs_reach (suc s) (suc j) parents k w root high le e =
    elim (equal_or k w) [
      | inl same ↦ climbs_here (suc s) parents k w same
      | inr other ↦
          let up : k ≢ 0 = λ z. high (sym e ∙ ap (above (suc j) parents) z ∙ above_zero parents (suc j) root) in
          climbs_on s parents k w other up ∙ climbs_reach s j parents (slice_index parents k) w root high (omega (arith, le)) e
    ]

-- a type that is found is so many steps above
climbs_found : (s : ℕ) (parents : List ℕ) (k w : ℕ) → climbs s parents k w ≡ true → (j : ℕ) × (j ≤ s) × (above j parents k ≡ w)
climbs_found zero parents k w h = (0, omega arith, equal_test k w h)
climbs_found (suc s) parents k w h =
    elim (equal_or k w) [
      | inl same ↦ (0, omega arith, same)
      | inr other ↦
          elim (zero_or k) [
            | inl z ↦ absurd (let e = climbs_none s parents k w other z in cc)
            | inr up ↦
                let found = climbs_found s parents (slice_index parents k) w (sym (climbs_on s parents k w other up) ∙ h) in
                (suc found.0, (let le = found.1 in omega (arith, le)), found.2)
          ]
    ]

-- type 0 is above each type within the number of types
pub record IsSettled (n : ℕ) (parents : List ℕ) : Type 0 where
  pub root : slice_index parents 0 ≡ 0
  pub ends : (k : ℕ) → above (suc n) parents k ≡ 0

settled_on : (n m : ℕ) (parents : List ℕ) (k : ℕ) → IsSettled n parents → n < m → above m parents k ≡ 0
settled_on n m parents k h lt =
    let more : m ≡ suc n + (m - suc n) = omega (arith, lt) in
    ap (λ s. above s parents k) more ∙ above_add parents (suc n) (m - suc n) k ∙ ap (above (m - suc n) parents) (h.ends k) ∙ above_zero parents (m - suc n) h.root

-- so many steps above a type there is one that is as many lower in height
height_between : (n m j : ℕ) (parents : List ℕ) (k w : ℕ) → IsSettled n parents → n < m → j ≤ n → w ≢ 0 → above j parents k ≡ w
    → height m parents k ≡ j + height m parents w
height_between n m j parents k w h lt le high e =
    let split : m ≡ j + (m - j) = omega (arith, lt, le) in
    let turned : m ≡ (m - j) + j = omega (arith, lt, le) in
    let full : height j parents k ≡ j = height_full parents j k h.root (λ z. high (sym e ∙ z)) in
    let of_k : height m parents k ≡ height j parents k + height (m - j) parents w =
    ap (λ s. height s parents k) split ∙ height_add parents j (m - j) k h.root ∙ ap (λ p. height j parents k + height (m - j) parents p) e in
    let end : above (m - j) parents w ≡ 0 =
    ap (above (m - j) parents) (sym e) ∙ sym (above_add parents j (m - j) k) ∙ ap (λ s. above s parents k) (sym split) ∙ settled_on n m parents k h lt in
    let rest : height j parents (above (m - j) parents w) ≡ 0 = ap (height j parents) end ∙ height_zero parents j h.root in
    let of_w : height m parents w ≡ height (m - j) parents w + height j parents (above (m - j) parents w) =
    ap (λ s. height s parents w) turned ∙ height_add parents (m - j) j w h.root in
    omega (arith, full, of_k, rest, of_w)

-- a type is below another than type 0 exactly where the difference of the heights leads from one to the other
pub below_by_heights : (n m : ℕ) (parents : List ℕ) (k w : ℕ) → IsSettled n parents → n < m → w ≢ 0
    → climbs n parents k w ≡ (nat_le (height m parents w) (height m parents k) && nat_eq (above (height m parents k - height m parents w) parents k) w)
below_by_heights n m parents k w h lt high =
    let there : climbs n parents k w ≡ true → (nat_le (height m parents w) (height m parents k) && nat_eq (above (height m parents k - height m parents w) parents k) w) ≡ true =
    λ c.
    let found = climbs_found n parents k w c in
    let e = height_between n m found.0 parents k w h lt found.1 high found.2 in
    let steps : height m parents k - height m parents w ≡ found.0 = omega (arith, e) in
    let le : nat_le (height m parents w) (height m parents k) ≡ true = le-leb (height m parents w) (height m parents k) (omega (arith, e)) in
    and_from _ _ le (test_equal _ w (ap (λ s. above s parents k) steps ∙ found.2)) in
    let back : (nat_le (height m parents w) (height m parents k) && nat_eq (above (height m parents k - height m parents w) parents k) w) ≡ true → climbs n parents k w ≡ true =
    λ c.
    let both = and_parts (nat_le (height m parents w) (height m parents k)) (nat_eq (above (height m parents k - height m parents w) parents k) w) c in
    let within = height_within parents n m k h.root (h.ends k) in
    climbs_reach n (height m parents k - height m parents w) parents k w h.root high (omega (arith, within)) (equal_test _ w both.1) in
    same_tests _ _ there back

-- where there is a root, type 0 is above each type
pub settled : (parents : List ℕ) → is_rooted parents ≡ true → IsSettled (length parents) parents
unfolding is_below is_rooted
settled parents h =
    let n : ℕ = length parents in
    let both = and_parts (nat_eq (slice_index parents 0) 0) (list_all (λ parent. climbs n parents parent 0) parents) h in
    let root : slice_index parents 0 ≡ 0 = equal_test (slice_index parents 0) 0 both.0 in
    let each = AllPass-from_list_all (λ parent. climbs n parents parent 0) parents both.1 in
    record {
      root = root;
      ends = λ k. elim (cases_lt k (length parents)) [
        | inl lt ↦
            let test : climbs n parents (slice_index parents k) 0 ≡ true = All-get_or (λ p. climbs n parents p 0 ≡ true) parents k 0 lt each in
            equal_test (above n parents (slice_index parents k)) 0 (sym (climbs_to_zero n parents (slice_index parents k) root) ∙ test)
        | inr le ↦ ap (above n parents) (get_or_past parents k 0 le) ∙ above_zero parents n root
      ];
    }
