use Rattle.std.proofs.Common.{◌≡◌, drop}
use Rattle.cpt_cert_read.specs.Reading.{are_alone}
use Rattle.cpt_cert_read.proofs.rows.are_alone.Given as goal

abbrev pub invariant-loop-run : goal.invariant-loop-run
invariant-loop-run l = are_alone (drop l.run-index l.runs) ≡ are_alone l.runs
