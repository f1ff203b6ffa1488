use Rattle.std.proofs.Common.{arith, ◌≡◌, ◌<◌, ◌∙◌, length, ap, sym}
use Rattle.cpt_sheet.specs.declared.data.Cand.TheVariants.{Tok}
use Rattle.cpt_sheet.specs.declared.data.Token.{Token}
use Rattle.cpt_sheet.specs.View.{kind_of}
use Rattle.cpt_layout.specs.Places.{Frame}
use Rattle.cpt_cells.specs.Shapes.{CellsShape}
use Rattle.cpt_layout.specs.Sheets.{number_at}
use Rattle.cpt_layout.proofs.Views.{tokens_are, token_is}
use Rattle.cpt_cells.proofs.cells.Cells.kind.Goals as goal

pub kind-requires : goal.kind-requires
kind-requires c =
    let s : Frame = c.self.inside.layout.frame in
    let n : length c.args.self.now.sheet.tokens ≡ length s.kinds = ap (λ (t : CellsShape). length t.sheet.tokens) (sym c.self.view_is) ∙ tokens_are s (number_at s c.self.inside.trail.cells) in
    omega arith

pub returns : goal.returns
returns c =
    let s : Frame = c.self.inside.layout.frame in
    let n : length c.args.self.now.sheet.tokens ≡ length s.kinds = ap (λ (t : CellsShape). length t.sheet.tokens) (sym c.self.view_is) ∙ tokens_are s (number_at s c.self.inside.trail.cells) in
    let l : c.args.x < length s.kinds = omega arith in
    c.kind.ensures ∙ (ap (λ (t : Token). t.kind) (sym (token_is s (number_at s c.self.inside.trail.cells) c.args.x l)) ∙ ap (λ (t : CellsShape). kind_of t.sheet (Tok c.args.x)) c.self.view_is)
