use Rattle.std.proofs.Common.{◌≤◌, ◌<◌, ℕ, take, length, get_or}
use Rattle.cpt_index.specs.Rows.{contents, HasSpare, IsEditedAt, with_last}
use Rattle.cpt_index.proofs.rows.push_each.Given as goal

abbrev pub invariant-loop-p : goal.invariant-loop-p
invariant-loop-p g l = record {
  edited : IsEditedAt (with_last l.item) (take l.p-index l.at) (contents l.initial.rows) (contents l.rows);
  room : (j : ℕ) → l.p-index ≤ j → j < length l.at → HasSpare l.rows (get_or l.at j 0);
}
