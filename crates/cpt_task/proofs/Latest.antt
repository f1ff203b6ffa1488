use Rattle.std.proofs.Common.{◌≡◌, ℕ, ◌+◌, ◌<◌, ◌≤◌, ◌==◌, ◌⊎◌, inl, inr, true, false, ◌&&◌, ◌||◌, nat_lt, List, length, get_or, ◌∙◌, sym, ap, subst, arith, Contains}
use Rattle.std.specs.List.Sorted.{IsPartitionPoint}
use Rattle.std.specs.Ordering.{is_lt, nat_cmp, ordering_then}
use Rattle.std.proofs.lemmas.Bool.Decides.{nat_tests}
use Rattle.std.proofs.lemmas.List.{get_or_default}
use Rattle.std.proofs.lemmas.List.Sorted.{sorted_far, ranks_by}
use Rattle.cpt_task.specs.declared.register.Mark.{Mark}
use Rattle.cpt_task.specs.Register.{mark_cmp, is_before, IsMarkSorted, NoMarkUpTo, IsLastMark}
use Rattle.cpt_task.proofs.Ranks.{mark_total}

abbrev mark : ℕ → ℕ → Mark
mark p s = record { atom = p; time = s }

-- a mark that stands earlier in the list is not after the other
lower_first : (ms : List Mark) (i j : ℕ) (d : Mark) → IsMarkSorted ms → i ≤ j → j < length ms → is_lt (mark_cmp (get_or ms j d) (get_or ms i d)) ≡ false
lower_first ms i j d sorted le lt = sorted_far (λ m n. is_lt (mark_cmp m n)) (ranks_by mark_total (λ m. m)) ms sorted i j d le lt

before_cases : (a s p t : ℕ) → is_lt (ordering_then (nat_cmp a p) (nat_cmp s t)) ≡ false → (p < a) ⊎ ((a ≡ p) × (t ≤ s))
before_cases a s p t h = grind (arith, nat_tests)

is_passed : (p s time : ℕ) → s ≤ time → is_before p (time + 1) (mark p s) ≡ true
is_passed p s time le = grind (arith, nat_tests)

passed_is : (p a s time : ℕ) → (nat_lt a p || ((a == p) && nat_lt s (time + 1))) ≡ true → (a < p) ⊎ ((a ≡ p) × (s ≤ time))
passed_is p a s time h = grind (arith, nat_tests)

lt_or_le : (j k : ℕ) → (j < k) ⊎ (k ≤ j)
lt_or_le j k = grind arith

-- a mark of the atom up to the moment stands before the parting
passed_place : (ms : List Mark) (p s time k : ℕ) → IsPartitionPoint (λ m. is_before p (time + 1) m ≡ true) (λ m. is_before p (time + 1) m ≡ false) ms k
    → (has : Contains ms (mark p s)) → s ≤ time → has.0 < k
passed_place ms p s time k parted has le =
    elim (lt_or_le has.0 k) [
      | inl lt ↦ lt
      | inr ge ↦
          let fails : is_before p (time + 1) (get_or ms has.0 (mark p s)) ≡ false = parted.1 has.0 (mark p s) ge has.1 in
          let passes : is_before p (time + 1) (get_or ms has.0 (mark p s)) ≡ true = ap (is_before p (time + 1)) has.2 ∙ is_passed p s time le in
          absurd (let z : ⊥ = cc (fails, passes) in z)
    ]

pub none_before : (ms : List Mark) (p time : ℕ) → IsPartitionPoint (λ m. is_before p (time + 1) m ≡ true) (λ m. is_before p (time + 1) m ≡ false) ms 0 → NoMarkUpTo ms p time
none_before ms p time parted s has le = let lt : has.0 < 0 = passed_place ms p s time 0 parted has le in omega (arith, lt)

-- the mark before the parting, against one of the atom up to the moment
near : (ms : List Mark) (p s time k : ℕ) (d : Mark) → IsMarkSorted ms → k < length ms → IsPartitionPoint (λ m. is_before p (time + 1) m ≡ true) (λ m. is_before p (time + 1) m ≡ false) ms (k + 1)
    → Contains ms (mark p s) → s ≤ time → (p < (get_or ms k d).atom) ⊎ (((get_or ms k d).atom ≡ p) × (s ≤ (get_or ms k d).time))
near ms p s time k d sorted lt parted has le =
    let before : has.0 < k + 1 = passed_place ms p s time (k + 1) parted has le in
    let low : is_lt (mark_cmp (get_or ms k (mark p s)) (get_or ms has.0 (mark p s))) ≡ false = lower_first ms has.0 k (mark p s) sorted (omega (arith, before)) lt in
    let same : get_or ms k (mark p s) ≡ get_or ms k d = get_or_default ms k (mark p s) d lt in
    let at : is_lt (mark_cmp (get_or ms k d) (mark p s)) ≡ false = subst (λ x. is_lt (mark_cmp x (mark p s)) ≡ false) same (subst (λ y. is_lt (mark_cmp (get_or ms k (mark p s)) y) ≡ false) has.2 low) in
    before_cases (get_or ms k d).atom (get_or ms k d).time p s at

same_mark : (m : Mark) (p : ℕ) → m.atom ≡ p → m ≡ mark p m.time
same_mark m p is = ap (λ a. mark a m.time) is

up_to : (m : Mark) (p time : ℕ) → m.atom ≡ p → is_before p (time + 1) m ≡ true → m.time ≤ time
up_to m p time is h = elim (passed_is p m.atom m.time time h) [ inl less ↦ omega (arith, is, less) | inr same ↦ same.1 ]

-- the mark before the parting is the last one of its atom
pub last_before : (ms : List Mark) (p time k : ℕ) (d : Mark) → IsMarkSorted ms → k < length ms → IsPartitionPoint (λ m. is_before p (time + 1) m ≡ true) (λ m. is_before p (time + 1) m ≡ false) ms (k + 1)
    → (get_or ms k d).atom ≡ p → IsLastMark ms p time (get_or ms k d).time
last_before ms p time k d sorted lt parted is = record {
  within = up_to (get_or ms k d) p time is (parted.0 k d (omega arith) (omega arith));
  there = (k, lt, get_or_default ms k (mark p (get_or ms k d).time) d lt ∙ same_mark (get_or ms k d) p is);
  last = λ s has le. elim (near ms p s time k d sorted lt parted has le) [ inl less ↦ absurd (omega (arith, is, less)) | inr same ↦ same.1 ];
}

-- where the mark before the parting is of another atom there is none
pub none_last : (ms : List Mark) (p time k : ℕ) (d : Mark) → IsMarkSorted ms → k < length ms → IsPartitionPoint (λ m. is_before p (time + 1) m ≡ true) (λ m. is_before p (time + 1) m ≡ false) ms (k + 1)
    → ((get_or ms k d).atom ≡ p → ⊥) → NoMarkUpTo ms p time
none_last ms p time k d sorted lt parted other s has le =
    let own : ((get_or ms k d).atom < p) ⊎ (((get_or ms k d).atom ≡ p) × ((get_or ms k d).time ≤ time)) = passed_is p (get_or ms k d).atom (get_or ms k d).time time (parted.0 k d (omega arith) (omega arith)) in
    elim (near ms p s time k d sorted lt parted has le) [
      | inl more ↦ elim own [ inl less ↦ omega (arith, more, less) | inr same ↦ other same.0 ]
      | inr same ↦ other same.0
    ]

abbrev Parts : List Mark → ℕ → ℕ → ℕ → Type 0
Parts ms p time r = IsPartitionPoint (λ m. is_before p (time + 1) m ≡ true) (λ m. is_before p (time + 1) m ≡ false) ms r

-- the same of the mark as it is read
pub last_read : (ms : List Mark) (p time r k : ℕ) (m : Mark) → IsMarkSorted ms → r ≡ k + 1 → r ≤ length ms → Parts ms p time r → m ≡ get_or ms k m → m.atom ≡ p → IsLastMark ms p time m.time
last_read ms p time r k m sorted e le parted read is =
    let here : (get_or ms k m).atom ≡ p = sym (ap (λ (x : Mark). x.atom) read) ∙ is in
    subst (λ (x : Mark). IsLastMark ms p time x.time) (sym read) (last_before ms p time k m sorted (omega (arith, e, le)) (subst (Parts ms p time) e parted) here)

pub none_read : (ms : List Mark) (p time r k : ℕ) (m : Mark) → IsMarkSorted ms → r ≡ k + 1 → r ≤ length ms → Parts ms p time r → m ≡ get_or ms k m → (m.atom ≡ p → ⊥) → NoMarkUpTo ms p time
none_read ms p time r k m sorted e le parted read other =
    none_last ms p time k m sorted (omega (arith, e, le)) (subst (Parts ms p time) e parted) (λ is. other (ap (λ (x : Mark). x.atom) read ∙ is))
