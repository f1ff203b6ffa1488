use Rattle.std.proofs.Common.{◌≡◌, ℕ, ◌<◌, true, length}
use Rattle.cpt_reach.specs.Reached.{action_at}
use Rattle.cpt_reach.specs.Marking.{is_marked, AllBelow, IsSound, IsSettled, work}
use Rattle.cpt_reach.proofs.marking.spread.Given as goal

abbrev pub invariant-loop-p : goal.invariant-loop-p
invariant-loop-p l = record {
  below : AllBelow (length l.marks) l.agenda.items;
  sound : IsSound l.task l.marks;
  settled : (a : ℕ) → a < length l.task.actions → IsSettled l.marks l.agenda.items (action_at l.task a);
  kept : (q : ℕ) → is_marked l.initial.marks q ≡ true → is_marked l.marks q ≡ true;
}

abbrev pub decreases-loop-p : goal.decreases-loop-p
decreases-loop-p l = work l.marks l.agenda.items
