use Rattle.std.proofs.Common.{◌≡◌, length, take}
use Rattle.cpt_layout.specs.Places.{adders_at, atom_at}
use Rattle.cpt_block.specs.Blocks.{list_in}
use Rattle.cpt_cells.specs.Lists.{outs_in}
use Rattle.cpt_cells.proofs.cells.Cells.has_out.Given as goal

abbrev pub invariant-loop-place : goal.invariant-loop-place
invariant-loop-place l = length (outs_in (list_in l.self.sheet l.x l.j) (take l.place (adders_at l.self.frame (atom_at l.self.frame l.x l.j)))) ≡ 0
