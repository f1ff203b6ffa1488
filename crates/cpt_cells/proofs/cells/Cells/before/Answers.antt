use Rattle.std.proofs.Common.{arith, ◌≡◌, ◌==◌, ◌∙◌, ℕ, List, Bool, not, get_or, ap, sym, subst}
use Rattle.std.specs.Prelude.{◌&&◌}
use Rattle.cpt_sheet.specs.Formed.{IsPlaced}
use Rattle.cpt_sheet.specs.View.{before}
use Rattle.cpt_layout.specs.Places.{Frame, IsThere, order}
use Rattle.cpt_cells.specs.Shapes.{CellsShape}
use Rattle.cpt_layout.specs.Sheets.{number_at}
use Rattle.cpt_layout.proofs.Numbering.{cell_below}
use Rattle.cpt_layout.proofs.There.{order_there}
use Rattle.cpt_layout.proofs.Reading.{before_is}
use Rattle.cpt_layout.proofs.Drops.{not_eq}
use Rattle.cpt_cells.proofs.cells.Cells.before.Goals as goal

pub order_cell-cell-requires-clause-there : goal.order_cell-cell-requires-clause-there
order_cell-cell-requires-clause-there c = order_there c.self.inside.layout.frame (number_at c.self.inside.layout.frame c.self.inside.trail.cells) c.args.x c.args.y (subst (λ (t : CellsShape). IsPlaced t.sheet c.args.x c.args.y) (sym c.self.view_is) c.requires)

pub get-requires : goal.get-requires
get-requires c =
    let s : Frame = c.self.inside.layout.frame in
    let h : IsThere s (order c.args.x c.args.y) = order_there s (number_at s c.self.inside.trail.cells) c.args.x c.args.y (subst (λ (t : CellsShape). IsPlaced t.sheet c.args.x c.args.y) (sym c.self.view_is) c.requires) in
    let b = cell_below s (order c.args.x c.args.y) h in
    omega (arith, c.order_cell-cell.ensures, c.self.invariant.cells)

pub returns : goal.returns
returns c =
    let s : Frame = c.self.inside.layout.frame in
    let cells : List ℕ = c.self.inside.trail.cells in
    let h : IsThere s (order c.args.x c.args.y) = order_there s (number_at s cells) c.args.x c.args.y (subst (λ (t : CellsShape). IsPlaced t.sheet c.args.x c.args.y) (sym c.self.view_is) c.requires) in
    let e : c.get.result ≡ number_at s cells (order c.args.x c.args.y) = c.get.ensures ∙ ap (λ (i : ℕ). get_or cells i 0) c.order_cell-cell.ensures in
    ap (λ (n : ℕ). n == 1) e
    ∙ (sym (ap (λ (b : Bool). not b && (number_at s cells (order c.args.x c.args.y) == 1)) (not_eq c.args.x c.args.y h.2))
    ∙ (sym (before_is s (number_at s cells) c.args.x c.args.y h.0 h.1) ∙ ap (λ (t : CellsShape). before t.sheet c.args.x c.args.y) c.self.view_is))
