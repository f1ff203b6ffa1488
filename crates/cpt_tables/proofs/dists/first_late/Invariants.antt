use Rattle.std.proofs.Common.{ℕ, ◌<◌}
use Rattle.cpt_tables.specs.Scans.{IsLate}
use Rattle.cpt_tables.proofs.dists.first_late.Given as goal

abbrev pub invariant-loop-p : goal.invariant-loop-p
invariant-loop-p l = (k : ℕ) → k < l.p → IsLate l.pairs l.dists l.act l.a k → ⊥
