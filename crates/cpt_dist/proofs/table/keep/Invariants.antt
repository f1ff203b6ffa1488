use Rattle.std.proofs.Common.{ℕ, ◌<◌, ◌≡◌}
use Rattle.cpt_tables.specs.Shapes.{dist_at}
use Rattle.cpt_tables.specs.Weights.{value_at}
use Rattle.cpt_dist.specs.Rows.{KeepsOthers}
use Rattle.cpt_dist.proofs.table.keep.Given as goal

abbrev pub invariant-loop-p : goal.invariant-loop-p
invariant-loop-p l = record {
  others : KeepsOthers l.initial.table l.table l.act;
  row : (q : ℕ) → q < l.p → dist_at l.table l.act q ≡ value_at l.row q;
}
