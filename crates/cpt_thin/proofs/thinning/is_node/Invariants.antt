use Rattle.cpt_thin.specs.Dooms.{IsGoing}
use Rattle.cpt_thin.proofs.thinning.is_node.Given as goal

abbrev pub invariant-loop-at : goal.invariant-loop-at
invariant-loop-at l = IsGoing l.fn.task l.at l.walk
