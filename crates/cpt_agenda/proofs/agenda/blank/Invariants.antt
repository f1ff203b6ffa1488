use Rattle.std.proofs.Common.{◌≡◌}
use Rattle.cpt_agenda.specs.Marks.{clear}
use Rattle.cpt_agenda.proofs.agenda.blank.Given as goal

abbrev pub invariant-loop : goal.invariant-loop
invariant-loop l = l.marks.items ≡ clear l.counter
