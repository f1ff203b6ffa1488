use Rattle.std.proofs.Common.{◌≡◌, length}
use Rattle.cpt_cert_read.specs.Reading.{are_runs}
use Rattle.cpt_cert_read.proofs.rows.are_runs.Given as goal

abbrev pub invariant-loop-rest : goal.invariant-loop-rest
invariant-loop-rest l = are_runs l.rest ≡ are_runs l.runs

abbrev pub decreases-loop-rest : goal.decreases-loop-rest
decreases-loop-rest l = length l.rest
