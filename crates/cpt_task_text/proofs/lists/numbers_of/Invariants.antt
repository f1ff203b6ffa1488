use Rattle.std.proofs.Common.{[], length}
use Rattle.cpt_task_text.specs.Reading.{ids_in}
use Rattle.cpt_task_text.proofs.Steps.{IdsLeft}
use Rattle.cpt_task_text.proofs.lists.numbers_of.Given as goal

abbrev pub invariant-loop-rest : goal.invariant-loop-rest
invariant-loop-rest l = IdsLeft l.number l.count l.least l.ids.items l.rest (ids_in (length l.bytes) l.number l.count 0 [] l.bytes)

abbrev pub decreases-loop-rest : goal.decreases-loop-rest
decreases-loop-rest l = length l.rest
