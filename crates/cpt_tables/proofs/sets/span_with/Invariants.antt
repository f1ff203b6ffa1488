use Rattle.std.proofs.Common.{◌≡◌, drop}
use Rattle.cpt_tables.specs.Spans.{span_max}
use Rattle.cpt_tables.specs.Shapes.{most_over, pair_at}
use Rattle.cpt_tables.proofs.sets.span_with.Given as goal

abbrev pub invariant-loop-q : goal.invariant-loop-q
invariant-loop-q l = span_max l.most (most_over (pair_at l.pairs l.p) (drop l.q-index l.atoms)) ≡ most_over (pair_at l.pairs l.p) l.atoms
