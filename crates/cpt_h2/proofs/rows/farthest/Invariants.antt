use Rattle.std.proofs.Common.{◌≡◌, drop}
use Rattle.cpt_tables.specs.Spans.{span_max}
use Rattle.cpt_tables.specs.Shapes.{most_over}
use Rattle.cpt_tables.specs.Weights.{value_at}
use Rattle.cpt_h2.proofs.rows.farthest.Given as goal

abbrev pub invariant-loop-p : goal.invariant-loop-p
invariant-loop-p l = span_max l.most (most_over (value_at l.row) (drop l.p-index l.atoms)) ≡ most_over (value_at l.row) l.atoms
