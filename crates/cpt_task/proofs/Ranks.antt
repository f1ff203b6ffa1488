use Rattle.std.proofs.Common.{◌≡◌, ℕ, zero, suc, ◌≤◌, ◌==◌, Bool, true, false, cond, ◌&&◌, ◌||◌, nat_lt, List, [], ◌∷◌, length, refl, ◌∙◌, sym, arith, ltb}
use Rattle.std.specs.List.{count_by}
use Rattle.std.specs.List.Sorted.{IsPartitionPoint, IsPartitionedBy}
use Rattle.std.specs.Cmp.{IsTotalOrder}
use Rattle.std.specs.Ordering.{ordering_then, ordering_index}
use Rattle.std.specs.declared.cmp.Ordering.TheVariants.{Less, Equal, Greater}
use Rattle.std.proofs.lemmas.Cmp.{then_total, on_total, nat_cmp_total}
use Rattle.std.proofs.lemmas.List.Sums.{sum_by-cons}
use Rattle.std.proofs.lemmas.List.Sorted.{searchable_from_sorted, IsPartitionedBy-ltb}
use Rattle.cpt_task.specs.declared.register.Mark.{Mark}
use Rattle.cpt_task.specs.Register.{mark_cmp, is_before, IsMarkSorted}

pub mark_total : IsTotalOrder mark_cmp
mark_total = then_total (on_total (λ (m : Mark). m.atom) nat_cmp_total) (on_total (λ (m : Mark). m.time) nat_cmp_total)

-- the mark at which a search parts marks
abbrev pub is_lower : Mark → Mark → Bool
is_lower bound m = ltb (ordering_index (mark_cmp m bound)) 1

pub sorted_parts : (ms : List Mark) (bound : Mark) → IsMarkSorted ms → IsPartitionedBy (is_lower bound) ms
sorted_parts ms bound sorted = IsPartitionedBy-ltb (λ m. ordering_index (mark_cmp m bound)) ms 1 (searchable_from_sorted mark_total (λ m. m) ms bound sorted)

lower_cases : (l e k f : Bool) → ltb (ordering_index (ordering_then (cond l Less (cond e Equal Greater)) (cond k Less (cond f Equal Greater)))) 1 ≡ (l || (e && k))
lower_cases true e k f = refl
lower_cases false true true f = refl
lower_cases false true false true = refl
lower_cases false true false false = refl
lower_cases false false k f = refl

pub lower_before : (bound m : Mark) → is_lower bound m ≡ is_before bound.atom bound.time m
lower_before bound m = lower_cases (nat_lt m.atom bound.atom) (m.atom == bound.atom) (nat_lt m.time bound.time) (m.time == bound.time)

pub parted_before : (ms : List Mark) (bound : Mark) (i : ℕ) → IsPartitionPoint (λ m. is_lower bound m ≡ true) (λ m. is_lower bound m ≡ false) ms i
    → IsPartitionPoint (λ m. is_before bound.atom bound.time m ≡ true) (λ m. is_before bound.atom bound.time m ≡ false) ms i
parted_before ms bound i h = (λ k d low lt. sym (lower_before bound _) ∙ h.0 k d low lt, λ k d le lt. sym (lower_before bound _) ∙ h.1 k d le lt)

-- where a test parts a list, as many pass as stand before the parting
pub count_parted : {X : Type 0} (q : X → Bool) (xs : List X) (i : ℕ) → i ≤ length xs → IsPartitionPoint (λ x. q x ≡ true) (λ x. q x ≡ false) xs i → count_by q xs ≡ i
count_parted q [] zero le h = refl
count_parted q [] (suc i) le h = absurd (omega arith)
count_parted q (x ∷ xs) zero le h =
    let rest : count_by q xs ≡ 0 = count_parted q xs zero (omega arith) (λ k d low lt. absurd (omega arith), λ k d low lt. h.1 (suc k) d (omega arith) (omega arith)) in
    let fails : q x ≡ false = h.1 0 x (omega arith) (omega arith) in
    sum_by-cons (λ y. cond (q y) 1 0) x xs ∙ rw fails (omega (arith, rest))
count_parted q (x ∷ xs) (suc i) le h =
    let rest : count_by q xs ≡ i = count_parted q xs i (omega arith) (λ k d low lt. h.0 (suc k) d (omega arith) (omega arith), λ k d low lt. h.1 (suc k) d (omega arith) (omega arith)) in
    let passes : q x ≡ true = h.0 0 x (omega arith) (omega arith) in
    sum_by-cons (λ y. cond (q y) 1 0) x xs ∙ rw passes (omega (arith, rest))
