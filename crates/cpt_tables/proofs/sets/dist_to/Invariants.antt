use Rattle.std.proofs.Common.{◌≡◌, drop}
use Rattle.cpt_tables.specs.Spans.{span_max}
use Rattle.cpt_tables.specs.Shapes.{most_over, dist_at}
use Rattle.cpt_tables.proofs.sets.dist_to.Given as goal

abbrev pub invariant-loop-p : goal.invariant-loop-p
invariant-loop-p l = span_max l.most (most_over (dist_at l.dists l.act) (drop l.p-index l.atoms)) ≡ most_over (dist_at l.dists l.act) l.atoms
