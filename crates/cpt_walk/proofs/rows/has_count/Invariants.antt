use Rattle.std.proofs.Common.{◌≡◌, ◌==◌, drop, length}
use Rattle.cpt_cert_accept.specs.Reading.{values_of}
use Rattle.cpt_walk.proofs.rows.has_count.Given as goal

abbrev pub invariant-loop-run : goal.invariant-loop-run
invariant-loop-run l = (length (values_of (drop l.run-index l.runs)) == l.left) ≡ (length (values_of l.runs) == l.count)
