use Rattle.std.proofs.Common.{◌<◌}
use Rattle.cpt_reach.specs.Marking.{Settles}
use Rattle.cpt_reach.proofs.marking.visit_every.Given as goal

abbrev pub invariant-loop-a : goal.invariant-loop-a
invariant-loop-a l = Settles l.task (λ b. b < l.a) l.initial.marks l.initial.agenda.items l.marks l.agenda.items
