use Rattle.cpt_explain.specs.Losses.{IsFirstLoss}
use Rattle.cpt_explain.proofs.gaps.first_loss.Given as goal

abbrev pub invariant-loop-k : goal.invariant-loop-k
invariant-loop-k l = IsFirstLoss l.task l.plan l.from l.to l.p l.k l.first
