use Rattle.cpt_thin.specs.Thinner.{IsSomeFront}
use Rattle.cpt_thin.proofs.rests.rests_of.Given as goal

abbrev pub invariant-loop-place : goal.invariant-loop-place
invariant-loop-place l = IsSomeFront l.fn.task l.place l.front
