-- whether a plan is valid is decidable
use Rattle.std.proofs.Common.{◌≡◌, ℕ, ◌<◌, ◌≤◌, true, List, length, Contains, arith}
use Rattle.cpt_task.specs.declared.task.Action.{Action}
use Rattle.cpt_task.specs.declared.plan.Occ.{Occ}
use Rattle.cpt_task.specs.Shape.{TaskShape}
use Rattle.cpt_task.specs.Interference.{Shares, Disturbs, Interferes}
use Rattle.cpt_task.specs.Timeline.{IsOccurrence, Overlaps, Clashes, IsApart, HoldsThen, HoldsFrom, IsMet, IsValid, makespan, action_of, end_of, holds_at, occurrence_at}
use Rattle.cpt_decidable.specs.Decidable.{IsDecidable}
use Rattle.cpt_decidable.proofs.Deciding.{like, both, either, implied, denied, is_less, is_at_most, is_test, are_all, is_some_in, is_in_list, are_all_below}

pub is_shared : (xs ys : List ℕ) → IsDecidable (Shares xs ys)
is_shared xs ys = is_some_in (λ p. Contains ys p) (λ p. is_in_list ys p) xs

pub is_disturbed : (a b : Action) → IsDecidable (Disturbs a b)
is_disturbed a b = either (is_shared a.dele b.pre) (is_shared a.dele b.add)

pub is_interfering : (a b : Action) → IsDecidable (Interferes a b)
is_interfering a b = either (is_disturbed a b) (is_disturbed b a)

is_overlap : (t : TaskShape) (o q : Occ) → IsDecidable (Overlaps t o q)
is_overlap t o q = like (λ h. record { first = h.0; second = h.1 }) (λ h. (h.first, h.second)) (both (is_less o.start (end_of t q)) (is_less q.start (end_of t o)))

pub is_clash : (t : TaskShape) (plan : List Occ) (i j : ℕ) → IsDecidable (Clashes t plan i j)
is_clash t plan i j = both (is_overlap t (occurrence_at plan i) (occurrence_at plan j)) (is_interfering (action_of t (occurrence_at plan i)) (action_of t (occurrence_at plan j)))

is_apart : (t : TaskShape) (plan : List Occ) → IsDecidable (IsApart t plan)
is_apart t plan =
    like (λ h i j lt short. h i (omega (arith, lt, short)) j short lt) (λ h i _ j short lt. h i j lt short)
    (are_all_below (λ i. (j : ℕ) → j < length plan → i < j → Clashes t plan i j → ⊥)
    (λ i. are_all_below (λ j. i < j → Clashes t plan i j → ⊥) (λ j. implied (is_less i j) (denied (is_clash t plan i j))) (length plan)) (length plan))

pub is_held_from : (t : TaskShape) (plan : List Occ) (from to p : ℕ) → IsDecidable (HoldsFrom t plan from to p)
is_held_from t plan from to p =
    like (λ h time low high. h time high low) (λ h time high low. h time low high)
    (are_all_below (λ time. from ≤ time → holds_at t plan time p ≡ true) (λ time. implied (is_at_most from time) (is_test (holds_at t plan time p) true)) to)

pub is_met : (t : TaskShape) (plan : List Occ) (o : Occ) → IsDecidable (IsMet t plan o)
is_met t plan o = are_all (HoldsFrom t plan o.start (end_of t o)) (λ p. is_held_from t plan o.start (end_of t o) p) (action_of t o).pre

pub is_valid : (t : TaskShape) (plan : List Occ) → IsDecidable (IsValid t plan)
is_valid t plan =
    like (λ h. record { of_task = h.0; apart = h.1.0; met = h.1.1.0; goal = h.1.1.1 }) (λ h. (h.of_task, (h.apart, (h.met, h.goal))))
    (both (are_all (IsOccurrence t) (λ o. is_less o.act (length t.actions)) plan) (both (is_apart t plan) (both (are_all (IsMet t plan) (λ o. is_met t plan o) plan)
    (are_all (HoldsThen t plan (makespan t plan)) (λ p. is_test (holds_at t plan (makespan t plan) p) true) t.goal))))
