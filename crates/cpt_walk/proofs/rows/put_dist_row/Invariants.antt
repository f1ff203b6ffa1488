use Rattle.std.proofs.Common.{◌≡◌, ◌+◌, take, length}
use Rattle.cpt_cert_accept.specs.Reading.{values_of}
use Rattle.cpt_walk.specs.Puts.{PutsDists}
use Rattle.cpt_walk.proofs.rows.put_dist_row.Given as goal

abbrev pub invariant-loop-run : goal.invariant-loop-run
invariant-loop-run l = record {
  place : l.q ≡ 0 + length (values_of (take l.run-index l.runs));
  puts : PutsDists l.fn.dists l.dists l.act 0 (values_of (take l.run-index l.runs));
}
