use Rattle.std.proofs.Common.{arith, ◌≡◌, ◌∙◌, length, ap, sym}
use Rattle.std.proofs.Math.ListN.{get_or-eq_default}
use Rattle.std.proofs.lemmas.Option.{unwrap_or-slice_get}
use Rattle.cpt_sheet.specs.View.{no_span}
use Rattle.cpt_layout.specs.Places.{Frame}
use Rattle.cpt_layout.specs.Sheets.{number_at}
use Rattle.cpt_layout.proofs.Views.{outs_are}
use Rattle.cpt_cells.specs.Shapes.{CellsShape}
use Rattle.cpt_cells.proofs.cells.Cells.out_at.Goals as goal

pub out-requires : goal.out-requires
out-requires c =
    let s : Frame = c.self.inside.layout.frame in
    let n : length c.args.self.now.sheet.outs ≡ length s.pre = ap (λ (t : CellsShape). length t.sheet.outs) (sym c.self.view_is) ∙ outs_are s (number_at s c.self.inside.trail.cells) in
    omega (arith, c.if-a-out_cells.true, c.out_cells.ensures)

pub returns-else-a-out_cells : goal.returns-else-a-out_cells
returns-else-a-out_cells c =
    let s : Frame = c.self.inside.layout.frame in
    let n : length c.args.self.now.sheet.outs ≡ length s.pre = ap (λ (t : CellsShape). length t.sheet.outs) (sym c.self.view_is) ∙ outs_are s (number_at s c.self.inside.trail.cells) in
    sym (unwrap_or-slice_get c.args.self.now.sheet.outs c.args.a no_span ∙ get_or-eq_default c.args.self.now.sheet.outs no_span (omega (arith, c.if-a-out_cells.false, c.out_cells.ensures)))
