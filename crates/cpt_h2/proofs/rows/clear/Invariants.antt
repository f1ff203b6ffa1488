use Rattle.std.proofs.Common.{◌≡◌, ℕ, ◌<◌}
use Rattle.cpt_task.specs.declared.span.Span.TheVariants.{At}
use Rattle.cpt_tables.specs.Weights.{value_at}
use Rattle.cpt_h2.proofs.rows.clear.Given as goal

abbrev pub invariant-loop-value : goal.invariant-loop-value
invariant-loop-value l = (q : ℕ) → q < l.value-index → value_at l.row q ≡ At 0
