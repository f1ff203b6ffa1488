use Rattle.std.proofs.Common.{◌≡◌, ℕ, [], length}
use Rattle.cpt_index.specs.Rows.{contents, row_at}
use Rattle.cpt_index.proofs.rows.empty_rows.Given as goal

abbrev pub invariant-loop-place : goal.invariant-loop-place
invariant-loop-place g l = record {
  count : length (contents l.rows.items) ≡ l.place;
  each : (p : ℕ) → row_at (contents l.rows.items) p ≡ [];
}
