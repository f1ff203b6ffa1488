use Rattle.std.proofs.Common.{ℕ, ◌<◌, get_or}
use Rattle.cpt_tables.specs.Spans.{IsFinite}
use Rattle.cpt_tables.specs.Shapes.{pair_at}
use Rattle.cpt_tables.proofs.dists.can_hold_with.Given as goal

abbrev pub invariant-loop-r : goal.invariant-loop-r
invariant-loop-r l = (k : ℕ) → k < l.r-index → IsFinite (pair_at l.pairs l.p (get_or l.atoms k 0))
