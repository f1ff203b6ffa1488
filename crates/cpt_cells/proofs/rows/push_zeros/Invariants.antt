use Rattle.std.proofs.Common.{◌≡◌, ◌++◌}
use Rattle.cpt_layout.specs.Places.{table}
use Rattle.cpt_cells.proofs.rows.push_zeros.Given as goal

abbrev pub invariant-loop-place : goal.invariant-loop-place
invariant-loop-place l = l.found.items ≡ l.fn.found.items ++ table (λ i. 0) 0 l.place
