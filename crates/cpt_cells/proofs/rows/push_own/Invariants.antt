use Rattle.std.proofs.Common.{◌≡◌, ◌++◌}
use Rattle.cpt_block.specs.Blocks.{flat, own_row_at}
use Rattle.cpt_cells.proofs.rows.push_own.Given as goal

abbrev pub invariant-loop-p : goal.invariant-loop-p
invariant-loop-p l = l.found.items ≡ l.fn.found.items ++ flat (own_row_at l.task l.cells.frame l.cells.sheet l.fn.kind) l.p-index
