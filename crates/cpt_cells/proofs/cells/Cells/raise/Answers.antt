use Rattle.cpt_layout.specs.Puts.{lo_of}
use Rattle.cpt_cells.proofs.cells.Cells.raise.Goals as goal

pub put-requires : goal.put-requires
put-requires g c = record { place = lo_of c.args.at; there = c.span_cell-cell.ensures.lo_there; cell = c.span_cell-cell.ensures.lo }
