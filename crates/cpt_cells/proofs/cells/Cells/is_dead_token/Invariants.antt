use Rattle.std.proofs.Common.{◌≢◌, ◌<◌, ℕ, []}
use Rattle.cpt_block.specs.Blocks.{list_in}
use Rattle.cpt_cells.proofs.cells.Cells.is_dead_token.Given as goal

abbrev pub invariant-loop-j : goal.invariant-loop-j
invariant-loop-j l = (k : ℕ) → k < l.j → list_in l.self.sheet l.x k ≢ []
