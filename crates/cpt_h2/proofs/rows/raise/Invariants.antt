use Rattle.std.proofs.Common.{◌≡◌, ℕ, ◌<◌, ◌≤◌}
use Rattle.cpt_tables.specs.Spans.{span_max}
use Rattle.cpt_tables.specs.Shapes.{pair_at}
use Rattle.cpt_tables.specs.Weights.{value_at}
use Rattle.cpt_h2.proofs.rows.raise.Given as goal

abbrev pub invariant-loop-q : goal.invariant-loop-q
invariant-loop-q l = record {
  raised : (q : ℕ) → q < l.q → value_at l.row q ≡ span_max (value_at l.initial.row q) (pair_at l.pairs q l.p);
  rest : (q : ℕ) → l.q ≤ q → value_at l.row q ≡ value_at l.initial.row q;
}
