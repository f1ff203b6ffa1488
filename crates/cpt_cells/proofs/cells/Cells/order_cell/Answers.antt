use Rattle.std.proofs.Common.{sym, subst}
use Rattle.cpt_sheet.specs.Formed.{IsPlaced}
use Rattle.cpt_layout.specs.Places.{IsThere, order}
use Rattle.cpt_cells.specs.Shapes.{CellsShape}
use Rattle.cpt_layout.specs.Sheets.{number_at}
use Rattle.cpt_layout.proofs.There.{order_there}
use Rattle.cpt_cells.proofs.cells.Cells.order_cell.Goals as goal

pub order_cell-requires-clause-there : goal.order_cell-requires-clause-there
order_cell-requires-clause-there c = order_there c.self.inside.layout.frame (number_at c.self.inside.layout.frame c.self.inside.trail.cells) c.args.x c.args.y (subst (λ (t : CellsShape). IsPlaced t.sheet c.args.x c.args.y) (sym c.self.view_is) c.requires)

pub returns-clause-there : goal.returns-clause-there
returns-clause-there c = subst (λ (t : CellsShape). IsThere t.frame (order c.args.x c.args.y)) c.self.view_is (order_there c.self.inside.layout.frame (number_at c.self.inside.layout.frame c.self.inside.trail.cells) c.args.x c.args.y (subst (λ (t : CellsShape). IsPlaced t.sheet c.args.x c.args.y) (sym c.self.view_is) c.requires))
