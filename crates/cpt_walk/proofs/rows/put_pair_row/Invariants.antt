use Rattle.std.proofs.Common.{◌≡◌, ◌+◌, take, length}
use Rattle.cpt_cert_accept.specs.Reading.{values_of}
use Rattle.cpt_walk.specs.Puts.{PutsPairs}
use Rattle.cpt_walk.proofs.rows.put_pair_row.Given as goal

abbrev pub invariant-loop-run : goal.invariant-loop-run
invariant-loop-run l = record {
  place : l.q ≡ l.p + length (values_of (take l.run-index l.runs));
  puts : PutsPairs l.fn.pairs l.pairs l.p l.p (values_of (take l.run-index l.runs));
}
