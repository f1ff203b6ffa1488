use Rattle.std.proofs.Common.{refl}
use Rattle.cpt_layout.specs.Places.{order}
use Rattle.cpt_cells.proofs.cells.Cells.post.Goals as goal

pub returns-clause-sheet : goal.returns-clause-sheet
returns-clause-sheet g c = c.put.ensures.sheet (order c.args.x c.args.y) c.order_cell-cell.ensures.there c.order_cell-cell.ensures.cell refl c.requires.fresh

pub put-requires : goal.put-requires
put-requires g c = record { place = order c.args.x c.args.y; there = c.order_cell-cell.ensures.there; cell = c.order_cell-cell.ensures.cell }
