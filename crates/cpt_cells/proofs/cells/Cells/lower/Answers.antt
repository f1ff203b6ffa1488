use Rattle.cpt_layout.specs.Puts.{hi_of}
use Rattle.cpt_cells.proofs.cells.Cells.lower.Goals as goal

pub put-requires : goal.put-requires
put-requires g c = record { place = hi_of c.args.at; there = c.span_cell-cell.ensures.there; cell = c.span_cell-cell.ensures.hi }
