use Rattle.std.proofs.Common.{◌≡◌, take}
use Rattle.cpt_index.specs.Rows.{contents, HasSpares}
use Rattle.cpt_index.proofs.rows.reserve_each.Given as goal

abbrev pub invariant-loop-p : goal.invariant-loop-p
invariant-loop-p g l = record {
  rows : contents l.rows ≡ contents l.initial.rows;
  room : HasSpares l.rows (take l.p-index l.at);
}
