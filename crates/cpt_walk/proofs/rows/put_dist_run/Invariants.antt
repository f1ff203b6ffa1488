use Rattle.std.proofs.Common.{replicate}
use Rattle.cpt_walk.specs.Puts.{PutsDists}
use Rattle.cpt_walk.proofs.rows.put_dist_run.Given as goal

abbrev pub invariant-loop-i : goal.invariant-loop-i
invariant-loop-i l = PutsDists l.fn.dists l.dists l.act l.q (replicate l.i l.run.value)
