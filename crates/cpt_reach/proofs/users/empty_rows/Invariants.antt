use Rattle.std.proofs.Common.{◌≡◌, [], length, All}
use Rattle.cpt_reach.proofs.users.empty_rows.Given as goal

abbrev pub invariant-loop-row : goal.invariant-loop-row
invariant-loop-row l = (length l.rows.items ≡ l._row) × All (λ row. row ≡ []) l.rows.items
