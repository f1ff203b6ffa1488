use Rattle.std.proofs.Common.{replicate}
use Rattle.cpt_walk.specs.Puts.{PutsPairs}
use Rattle.cpt_walk.proofs.rows.put_pair_run.Given as goal

abbrev pub invariant-loop-i : goal.invariant-loop-i
invariant-loop-i l = PutsPairs l.fn.pairs l.pairs l.p l.q (replicate l.i l.run.value)
