use Rattle.std.proofs.Common.{◌≡◌, length}
use Rattle.cpt_block.specs.Blocks.{list_in}
use Rattle.cpt_cells.specs.Lists.{tokens_in}
use Rattle.cpt_cells.proofs.cells.Cells.has_token.Given as goal

abbrev pub invariant-loop-y : goal.invariant-loop-y
invariant-loop-y l = length (tokens_in (list_in l.self.sheet l.x l.j) l.y) ≡ 0
