use Rattle.std.proofs.Common.{List, subst}
use Rattle.cpt_cells.specs.Shapes.{KeepsMarks, SheetMark}
use Rattle.cpt_cells.proofs.root.add.Goals as goal

pub returns-clause-marks : goal.returns-clause-marks
returns-clause-marks g c = subst (λ (ms : List SheetMark). KeepsMarks ms c.grow.new.self.marks) c.room_for.ensures.marks c.grow.ensures.marks
