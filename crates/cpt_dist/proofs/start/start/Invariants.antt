use Rattle.cpt_dist.specs.Rows.{IsStarted}
use Rattle.cpt_dist.proofs.start.start.Given as goal

abbrev pub invariant-loop-p : goal.invariant-loop-p
invariant-loop-p l = IsStarted l.pairs l.action l.p l.row
