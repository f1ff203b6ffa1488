use Rattle.std.proofs.Common.{All, take}
use Rattle.cpt_task.specs.Timeline.{HoldsThen}
use Rattle.cpt_task.proofs.plan.first_lack.Given as goal

abbrev pub invariant-loop-p : goal.invariant-loop-p
invariant-loop-p l = All (HoldsThen l.task l.plan l.time) (take l.p-index l.atoms)
