use Rattle.std.proofs.Common.{take}
use Rattle.cpt_reach.specs.Marking.{AreMarked}
use Rattle.cpt_reach.proofs.marking.are_marked.Given as goal

abbrev pub invariant-loop-x : goal.invariant-loop-x
invariant-loop-x l = AreMarked l.marks (take l.x-index l.xs)
