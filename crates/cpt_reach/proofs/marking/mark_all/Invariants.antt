use Rattle.std.proofs.Common.{take}
use Rattle.cpt_reach.specs.Marking.{MarksAll}
use Rattle.cpt_reach.proofs.marking.mark_all.Given as goal

abbrev pub invariant-loop-x : goal.invariant-loop-x
invariant-loop-x l = MarksAll (take l.x-index l.xs) l.initial.marks l.initial.agenda.items l.marks l.agenda.items
