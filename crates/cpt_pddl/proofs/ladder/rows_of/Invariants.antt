use Rattle.std.proofs.Common.{◌+◌, ◌*◌, ◌^◌, ◌<◌, length}
use Rattle.cpt_pddl.specs.Ladders.{AreRows, IsRow}
use Rattle.cpt_pddl.proofs.ladder.rows_of.Given as goal

abbrev pub invariant-loop-left : goal.invariant-loop-left
invariant-loop-left l = record {
  rows : AreRows l.parents 1 l.rows.items;
  row : IsRow l.parents (2 ^ length l.rows.items) l.row;
  room : length l.parents < (l.left + 1) * 2 ^ length l.rows.items;
}

abbrev pub decreases-loop-left : goal.decreases-loop-left
decreases-loop-left l = l.left
