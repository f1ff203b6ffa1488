use Rattle.std.proofs.Common.{◌∙◌, ap}
use Rattle.cpt_layout.specs.Places.{adders_at}
use Rattle.cpt_cells.specs.Shapes.{CellsShape}
use Rattle.cpt_cells.proofs.cells.Cells.adders.Goals as goal

pub returns : goal.returns
returns c = c.adders.ensures.adders ∙ ap (λ (t : CellsShape). adders_at t.frame c.args.p) c.self.view_is
