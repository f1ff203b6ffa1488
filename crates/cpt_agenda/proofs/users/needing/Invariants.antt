use Rattle.cpt_index.specs.Index.{Among}
use Rattle.cpt_agenda.specs.Asked.{IsActionBelow}
use Rattle.cpt_agenda.specs.Users.{IsNeeder}
use Rattle.cpt_agenda.proofs.users.needing.Given as goal

abbrev pub invariant-loop-a : goal.invariant-loop-a
invariant-loop-a l = Among (IsNeeder l.task l.p) (IsActionBelow l.a) l.found.items
