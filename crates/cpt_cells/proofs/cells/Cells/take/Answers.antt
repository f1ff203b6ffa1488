use Rattle.std.proofs.Common.{refl}
use Rattle.cpt_layout.specs.Places.{member}
use Rattle.cpt_cells.proofs.cells.Cells.take.Goals as goal

pub returns-clause-sheet : goal.returns-clause-sheet
returns-clause-sheet g c = let w = c.cand_cell-cell.ensures.there in c.put.ensures.sheet (member c.args.x w.place c.args.c) w.there w.cell c.args.p refl w.need c.requires.listed

pub put-requires : goal.put-requires
put-requires g c = let w = c.cand_cell-cell.ensures.there in record { place = member c.args.x w.place c.args.c; there = w.there; cell = w.cell }
