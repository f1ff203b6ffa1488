use Rattle.std.proofs.Common.{◌^◌}
use Rattle.cpt_pddl.specs.Ladders.{AreHeights}
use Rattle.cpt_pddl.proofs.ladder.heights_of.Given as goal

abbrev pub invariant-loop-row : goal.invariant-loop-row
invariant-loop-row l = AreHeights l.parents (2 ^ l.row-index) l.heights
