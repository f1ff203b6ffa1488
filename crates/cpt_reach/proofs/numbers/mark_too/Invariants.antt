use Rattle.std.proofs.Common.{take}
use Rattle.cpt_reach.specs.Marking.{MarksToo}
use Rattle.cpt_reach.proofs.numbers.mark_too.Given as goal

abbrev pub invariant-loop-x : goal.invariant-loop-x
invariant-loop-x l = MarksToo (take l.x-index l.xs) l.initial.marks l.marks
