-- what is sorted by start and action number stands in the order of plans
use Rattle.std.proofs.Common.{◌≡◌, ℕ, false, List, Ordering, get_or, arith}
use Rattle.std.specs.Cmp.{IsTotalOrder}
use Rattle.std.specs.Ordering.{is_lt, nat_cmp, ordering_then}
use Rattle.std.specs.List.Sorted.{IsSortedByKey}
use Rattle.std.proofs.lemmas.Bool.Decides.{nat_tests}
use Rattle.std.proofs.lemmas.Cmp.{nat_cmp_total, then_total, on_total}
use Rattle.std.proofs.lemmas.List.MinMax.{ranks_by}
use Rattle.std.proofs.lemmas.List.Sorted.{sorted_far}
use Rattle.cpt_task.specs.declared.plan.Occ.{Occ}
use Rattle.cpt_outcome.specs.Leaves.{ComesBefore, IsInPlanOrder}

-- a start, and an action number
abbrev pub Key : Type 0
Key = ℕ × ℕ

abbrev pub key_of : Occ → Key
key_of o = (o.start, o.act)

-- keys by their first parts, and then by their second
abbrev pub key_cmp : Key → Key → Ordering
key_cmp x y = ordering_then (nat_cmp x.0 y.0) (nat_cmp x.1 y.1)

key_cmp_total : IsTotalOrder key_cmp
key_cmp_total = then_total (on_total (λ (k : Key). k.0) nat_cmp_total) (on_total (λ (k : Key). k.1) nat_cmp_total)

comes_before : (o q : Occ) → is_lt (key_cmp (key_of q) (key_of o)) ≡ false → ComesBefore o q
comes_before o q h = grind (arith, nat_tests)

pub in_plan_order : (plan : List Occ) → IsSortedByKey key_of key_cmp plan → IsInPlanOrder plan
in_plan_order plan sorted = λ i j d before within. comes_before (get_or plan i d) (get_or plan j d) (sorted_far (λ x y. is_lt (key_cmp (key_of x) (key_of y))) (ranks_by key_cmp_total key_of) plan sorted i j d (omega arith) within)
