use Rattle.std.proofs.Common.{◌≡◌, ℕ, ◌<◌, length, drop}
use Rattle.cpt_tables.specs.Spans.{span_max}
use Rattle.cpt_tables.specs.Shapes.{pair_at, most_over, most_with}
use Rattle.cpt_tables.specs.Weights.{value_at}
use Rattle.cpt_h2.proofs.rows.fill.Given as goal

abbrev pub invariant-loop-p : goal.invariant-loop-p
invariant-loop-p l = record {
  size : length l.row ≡ l.pairs.atoms;
  values : (q : ℕ) → q < l.pairs.atoms → span_max (value_at l.row q) (most_over (pair_at l.pairs q) (drop l.p-index l.ps)) ≡ most_with l.pairs l.ps q;
}
