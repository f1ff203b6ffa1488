use Rattle.cpt_tables.specs.Scans.{IsFineBefore}
use Rattle.cpt_tables.proofs.dists.admissible_dists.Given as goal

abbrev pub invariant-loop-act : goal.invariant-loop-act
invariant-loop-act l = IsFineBefore l.task l.pairs l.dists l.act
