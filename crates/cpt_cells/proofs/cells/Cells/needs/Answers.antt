use Rattle.std.proofs.Common.{arith, ◌≡◌, ◌<◌, ◌∙◌, ℕ, List, length, ap, sym}
use Rattle.cpt_sheet.specs.View.{token_at}
use Rattle.cpt_layout.specs.Places.{Frame, needs_at}
use Rattle.cpt_layout.specs.Sheets.{number_at}
use Rattle.cpt_layout.proofs.Views.{tokens_are}
use Rattle.cpt_block.proofs.Lookups.{lists_of}
use Rattle.cpt_cells.specs.Shapes.{CellsShape}
use Rattle.cpt_cells.proofs.cells.Cells.needs.Goals as goal

pub needs-requires : goal.needs-requires
needs-requires c =
    let s : Frame = c.self.inside.layout.frame in
    let n : length c.args.self.now.sheet.tokens ≡ length s.kinds = ap (λ (t : CellsShape). length t.sheet.tokens) (sym c.self.view_is) ∙ tokens_are s (number_at s c.self.inside.trail.cells) in
    omega arith

pub returns-clause-value : goal.returns-clause-value
returns-clause-value c = c.needs.ensures ∙ ap (λ (t : CellsShape). needs_at t.frame c.args.x) c.self.view_is

pub returns-clause-lists : goal.returns-clause-lists
returns-clause-lists c =
    let s : Frame = c.self.inside.layout.frame in
    let n : length c.args.self.now.sheet.tokens ≡ length s.kinds = ap (λ (t : CellsShape). length t.sheet.tokens) (sym c.self.view_is) ∙ tokens_are s (number_at s c.self.inside.trail.cells) in
    let l : c.args.x < length s.kinds = omega arith in
    ap (λ (ns : List ℕ). length ns) c.needs.ensures
    ∙ (sym (lists_of s (number_at s c.self.inside.trail.cells) c.args.x l) ∙ ap (λ (t : CellsShape). length (token_at t.sheet c.args.x).lists) c.self.view_is)
