use Rattle.cpt_cells.specs.Marks.{seen_by, IsHeldBy}
use Rattle.cpt_cells.specs.Shapes.{CellsShape}
use Rattle.cpt_cells.specs.declared.cells.Cells.TheInside.{Inside}

-- what is seen of cells
abbrev pub shape_of : Inside → CellsShape
shape_of t = seen_by t.trail t.layout

-- the trail holds the sheet of the layout
abbrev pub IsHeld : Inside → Type 0
IsHeld t = IsHeldBy t.trail t.layout.frame t.end
