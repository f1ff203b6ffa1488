use Rattle.cpt_index.specs.Index.{Among}
use Rattle.cpt_agenda.specs.Asked.{IsActionBelow}
use Rattle.cpt_agenda.specs.Users.{IsDropper}
use Rattle.cpt_agenda.proofs.users.deleting.Given as goal

abbrev pub invariant-loop-a : goal.invariant-loop-a
invariant-loop-a l = Among (IsDropper l.task l.p) (IsActionBelow l.a) l.found.items
