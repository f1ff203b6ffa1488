use Rattle.std.proofs.Common.{take, Contains}
use Rattle.cpt_reach.specs.Marking.{Settles}
use Rattle.cpt_reach.proofs.marking.visit_users.Given as goal

abbrev pub invariant-loop-a : goal.invariant-loop-a
invariant-loop-a l = Settles l.task (Contains (take l.a-index l.users)) l.initial.marks l.initial.agenda.items l.marks l.agenda.items
