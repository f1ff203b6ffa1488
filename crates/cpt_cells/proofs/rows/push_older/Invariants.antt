use Rattle.std.proofs.Common.{◌≡◌, ◌++◌}
use Rattle.cpt_block.specs.Blocks.{flat, older_row}
use Rattle.cpt_cells.proofs.rows.push_older.Given as goal

abbrev pub invariant-loop-x : goal.invariant-loop-x
invariant-loop-x l = l.found.items ≡ l.fn.found.items ++ flat (older_row l.cells.sheet l.kind) l.x
