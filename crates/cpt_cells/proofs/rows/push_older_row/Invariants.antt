use Rattle.std.proofs.Common.{◌≡◌, ◌++◌}
use Rattle.cpt_layout.specs.Places.{table}
use Rattle.cpt_block.specs.Blocks.{bit, is_beside, list_in}
use Rattle.cpt_cells.proofs.rows.push_older_row.Given as goal

abbrev pub invariant-loop-j : goal.invariant-loop-j
invariant-loop-j l = l.found.items ≡ l.fn.found.items ++ table (λ j. bit (is_beside l.fn.kind (list_in l.cells.sheet l.fn.x j))) 0 l.j
