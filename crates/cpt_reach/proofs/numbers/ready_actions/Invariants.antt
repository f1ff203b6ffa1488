use Rattle.std.proofs.Common.{◌<◌}
use Rattle.cpt_reach.specs.Kept.{IsListOf}
use Rattle.cpt_reach.specs.Reached.{action_at}
use Rattle.cpt_reach.specs.Marking.{AreMarked}
use Rattle.cpt_reach.proofs.numbers.ready_actions.Given as goal

abbrev pub invariant-loop-a : goal.invariant-loop-a
invariant-loop-a l = IsListOf (λ b. (b < l.a) × AreMarked l.marks (action_at l.task b).pre) l.xs.items
