use Rattle.std.proofs.Common.{◌≡◌, ◌+◌, cond, false}
use Rattle.cpt_tables.specs.Weights.{value_at, weight}
use Rattle.cpt_dist.specs.Moving.{Falls}
use Rattle.cpt_dist.specs.Rows.{IsClosed}
use Rattle.cpt_dist.proofs.row.lower.Given as goal

abbrev pub invariant-loop-moved : goal.invariant-loop-moved
invariant-loop-moved l = record {
  falls : Falls (IsClosed l.actions) l.initial.row l.row;
  closed : l.moved ≡ false → IsClosed l.actions (value_at l.row);
}

abbrev pub decreases-loop-moved : goal.decreases-loop-moved
decreases-loop-moved l = weight l.row + cond l.moved 1 0
