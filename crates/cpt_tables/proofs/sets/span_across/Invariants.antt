use Rattle.std.proofs.Common.{◌≡◌, drop}
use Rattle.cpt_tables.specs.Spans.{span_max}
use Rattle.cpt_tables.specs.Shapes.{most_over, most_with}
use Rattle.cpt_tables.proofs.sets.span_across.Given as goal

abbrev pub invariant-loop-p : goal.invariant-loop-p
invariant-loop-p l = span_max l.most (most_over (most_with l.pairs l.second) (drop l.p-index l.first)) ≡ most_over (most_with l.pairs l.second) l.first
