-- a sheet has one plan: two lists in order with the same occurrences are one
use Rattle.std.proofs.Common.{◌≡◌, ℕ, suc, ◌+◌, ◌<◌, Bool, true, false, cond, eqb, ◌&&◌, List, [], ◌∷◌, length, slice_index_or, refl, sym, subst, ap, ◌∙◌, arith, inl, inr, ◌⊎◌}
use Rattle.std.specs.List.{sum_by}
use Rattle.std.specs.List.Sorted.{IsPermutation}
use Rattle.std.proofs.lemmas.Bool.Decides.{nat_tests}
use Rattle.std.proofs.lemmas.List.Sorted.{sum_by-IsPermutation}
use Rattle.std.proofs.lemmas.List.Sums.{sum_by-cons}
use Rattle.cpt_task.specs.declared.plan.Occ.{Occ}
use Rattle.cpt_outcome.specs.Leaves.{ComesBefore, IsInPlanOrder, token_occurrences, OnePlan}

-- the two are one occurrence
abbrev is_same : Occ → Occ → Bool
is_same o q = eqb o.start q.start && eqb o.act q.act

-- how often an occurrence stands in a list
abbrev times : Occ → List Occ → ℕ
times o [] = 0
times o (q ∷ qs) = cond (is_same o q) 1 0 + times o qs

times_is : (o : Occ) (plan : List Occ) → sum_by (λ q. cond (is_same o q) 1 0) plan ≡ times o plan
times_is o [] = refl
times_is o (q ∷ qs) = sum_by-cons (λ q. cond (is_same o q) 1 0) q qs ∙ ap (λ n. cond (is_same o q) 1 0 + n) (times_is o qs)

times_kept : (o : Occ) (xs ys : List Occ) → IsPermutation xs ys → times o ys ≡ times o xs
times_kept o xs ys h = sym (times_is o ys) ∙ sum_by-IsPermutation (λ q. cond (is_same o q) 1 0) xs ys h ∙ times_is o xs

-- each occurrence comes before those after it
abbrev BeforeAll : Occ → List Occ → Type 0
BeforeAll o [] = Unit {0}
BeforeAll o (q ∷ qs) = ComesBefore o q × BeforeAll o qs

abbrev Ordered : List Occ → Type 0
Ordered [] = Unit {0}
Ordered (o ∷ os) = BeforeAll o os × Ordered os

before_rest : (o : Occ) (os : List Occ) → ((i : ℕ) (d : Occ) → i < length os → ComesBefore o (slice_index_or os i d)) → BeforeAll o os
before_rest o [] h = tt
before_rest o (q ∷ qs) h = (h 0 q (omega arith), before_rest o qs (λ i d lt. h (suc i) d (omega arith)))

ordered : (plan : List Occ) → IsInPlanOrder plan → Ordered plan
ordered [] h = tt
ordered (o ∷ os) h = (before_rest o os (λ i d lt. h 0 (suc i) d (omega arith) (omega arith)), ordered os (λ i j d lt within. h (suc i) (suc j) d (omega arith) (omega arith)))

same_parts : (o q : Occ) → is_same o q ≡ true → (o.start ≡ q.start) × (o.act ≡ q.act)
same_parts o q h = grind (arith, nat_tests)

from_parts : (o q : Occ) → o.start ≡ q.start → o.act ≡ q.act → o ≡ q
from_parts o q s a =
    let made : ℕ → ℕ → Occ = λ start act. record { act = act; start = start } in
    ap (λ start. made start o.act) s ∙ ap (λ act. made q.start act) a

itself : (o : Occ) → is_same o o ≡ true
itself o = grind (arith, nat_tests)

same_after : (x o : Occ) → is_same o x ≡ true → ComesBefore x o
same_after x o h = let p = same_parts o x h in inr (sym p.0, omega (arith, p.1))

one_of : (b : Bool) (n : ℕ) → 0 < cond b 1 0 + n → (b ≡ true) ⊎ (0 < n)
one_of true n h = inl refl
one_of false n h = inr (omega arith)

found_after : (x o : Occ) (os : List Occ) → BeforeAll x os → 0 < times o os → ComesBefore x o
found_after x o [] h some = absurd (omega arith)
found_after x o (q ∷ qs) h some =
    elim (one_of (is_same o q) (times o qs) some) [
      | inl same ↦ let p = same_parts o q same in subst (ComesBefore x) (sym (from_parts o q p.0 p.1)) h.0
      | inr more ↦ found_after x o qs h.1 more
    ]

first_before : (x o : Occ) (os : List Occ) → BeforeAll x os → 0 < times o (x ∷ os) → ComesBefore x o
first_before x o os h some =
    elim (one_of (is_same o x) (times o os) some) [ inl same ↦ same_after x o same | inr more ↦ found_after x o os h more ]

-- whether an occurrence is this one, as a number
abbrev once : Occ → Occ → ℕ
once o q = cond (is_same o q) 1 0

stands_first : (o : Occ) (os : List Occ) → 0 < times o (o ∷ os)
stands_first o os = rw (itself o) (omega arith)

both_ways : (x y : Occ) → ComesBefore x y → ComesBefore y x → (x.start ≡ y.start) × (x.act ≡ y.act)
both_ways x y (inl p) (inl q) = absurd (omega arith)
both_ways x y (inl p) (inr q) = absurd (omega (arith, q.0))
both_ways x y (inr p) (inl q) = absurd (omega (arith, p.0))
both_ways x y (inr p) (inr q) = (p.0, omega (arith, p.1, q.1))

-- two ordered lists with the same occurrences are one
one_order : (xs ys : List Occ) → Ordered xs → Ordered ys → ((o : Occ) → times o xs ≡ times o ys) → xs ≡ ys
one_order [] [] p q same = refl
one_order [] (y ∷ ys) p q same = let some = stands_first y ys in let e = same y in absurd (omega (arith, some, e))
one_order (x ∷ xs) [] p q same = let some = stands_first x xs in let e = same x in absurd (omega (arith, some, e))
one_order (x ∷ xs) (y ∷ ys) p q same =
    let x_first : ComesBefore x y = first_before x y xs p.0 (subst (λ n. 0 < n) (sym (same y)) (stands_first y ys)) in
    let y_first : ComesBefore y x = first_before y x ys q.0 (subst (λ n. 0 < n) (same x) (stands_first x xs)) in
    let parts = both_ways x y x_first y_first in
    let e : x ≡ y = from_parts x y parts.0 parts.1 in
    let rest : (o : Occ) → times o xs ≡ times o ys = λ o. let h = same o in let k : once o x ≡ once o y = ap (once o) e in omega (arith, h, k) in
    let more : xs ≡ ys = one_order xs ys p.1 q.1 rest in
    ap (λ o. o ∷ xs) e ∙ ap (λ os. y ∷ os) more

pub one-plan : OnePlan
one-plan u plan other p q =
    let same : (o : Occ) → times o plan ≡ times o other = λ o. times_kept o (token_occurrences u) plan p.tokens ∙ sym (times_kept o (token_occurrences u) other q.tokens) in
    one_order plan other (ordered plan p.order) (ordered other q.order) same
