use Rattle.std.proofs.Common.{rules, arith, ◌≡◌, ◌<◌, ◌+◌, ◌^◌, ◌∙◌, ℕ, List, length, get_or, ap, sym}
use Rattle.cpt_task.specs.declared.span.Span.{Span}
use Rattle.cpt_sheet.specs.declared.data.Cand.TheVariants.{Tok}
use Rattle.cpt_sheet.specs.declared.data.Interval.{Interval}
use Rattle.cpt_sheet.specs.declared.data.Token.{Token}
use Rattle.cpt_sheet.specs.View.{span_of}
use Rattle.cpt_layout.specs.Places.{Frame, tok_lo, tok_hi}
use Rattle.cpt_cells.specs.Shapes.{CellsShape}
use Rattle.cpt_layout.specs.Sheets.{span_from}
use Rattle.cpt_layout.specs.Sheets.{number_at}
use Rattle.cpt_layout.proofs.Numbering.{cell_below}
use Rattle.cpt_layout.proofs.Views.{token_is, tokens_are}
use Rattle.cpt_cells.proofs.cells.Cells.span.Goals as goal

pub tok_cell-cell-requires : goal.tok_cell-cell-requires
tok_cell-cell-requires c =
    let s : Frame = c.self.inside.layout.frame in
    let n : length c.args.self.now.sheet.tokens ≡ length s.kinds = ap (λ (t : CellsShape). length t.sheet.tokens) (sym c.self.view_is) ∙ tokens_are s (number_at s c.self.inside.trail.cells) in
    omega arith

pub get-requires : goal.get-requires
get-requires c =
    let s : Frame = c.self.inside.layout.frame in
    let n : length c.args.self.now.sheet.tokens ≡ length s.kinds = ap (λ (t : CellsShape). length t.sheet.tokens) (sym c.self.view_is) ∙ tokens_are s (number_at s c.self.inside.trail.cells) in
    let b = cell_below s (tok_lo c.args.x) (let k : c.args.x < length s.kinds = omega arith in k) in
    omega (arith, c.tok_cell-cell.ensures.lo, c.self.invariant.cells)

pub get-requires-2 : goal.get-requires-2
get-requires-2 c =
    let s : Frame = c.self.inside.layout.frame in
    let n : length c.args.self.now.sheet.tokens ≡ length s.kinds = ap (λ (t : CellsShape). length t.sheet.tokens) (sym c.self.view_is) ∙ tokens_are s (number_at s c.self.inside.trail.cells) in
    let b = cell_below s (tok_hi c.args.x) (let k : c.args.x < length s.kinds = omega arith in k) in
    omega (arith, c.tok_cell-cell.ensures.hi, c.self.invariant.cells)

pub overflow_add-cell : goal.overflow_add-cell
overflow_add-cell c =
    let s : Frame = c.self.inside.layout.frame in
    let n : length c.args.self.now.sheet.tokens ≡ length s.kinds = ap (λ (t : CellsShape). length t.sheet.tokens) (sym c.self.view_is) ∙ tokens_are s (number_at s c.self.inside.trail.cells) in
    let b = cell_below s (tok_hi c.args.x) (let k : c.args.x < length s.kinds = omega arith in k) in
    let k : c.tok_cell-cell.result + 1 < 2 ^ 64 = omega (arith, c.tok_cell-cell.ensures.hi, c.self.invariant.cells, c.self.invariant.fits) in
    search rules

pub returns : goal.returns
returns c =
    let s : Frame = c.self.inside.layout.frame in
    let cells : List ℕ = c.self.inside.trail.cells in
    let n : length c.args.self.now.sheet.tokens ≡ length s.kinds = ap (λ (t : CellsShape). length t.sheet.tokens) (sym c.self.view_is) ∙ tokens_are s (number_at s cells) in
    let l : c.args.x < length s.kinds = omega arith in
    let made : ℕ → ℕ → Interval = λ a b. record { lo = span_from a; hi = b } in
    let lo : c.get.result ≡ number_at s cells (tok_lo c.args.x) = c.get.ensures ∙ ap (λ (i : ℕ). get_or cells i 0) c.tok_cell-cell.ensures.lo in
    let hi : c.get-2.result ≡ number_at s cells (tok_hi c.args.x) = c.get-2.ensures ∙ ap (λ (i : ℕ). get_or cells i 0) c.tok_cell-cell.ensures.hi in
    ap (λ (v : Span). (let i : Interval = record { lo = v; hi = c.get-2.result } in i)) c.span_of_number.ensures
    ∙ (ap (λ (a : ℕ). made a c.get-2.result) lo ∙ (ap (λ (b : ℕ). made (number_at s cells (tok_lo c.args.x)) b) hi
    ∙ (ap (λ (t : Token). t.span) (sym (token_is s (number_at s cells) c.args.x l)) ∙ ap (λ (t : CellsShape). span_of t.sheet (Tok c.args.x)) c.self.view_is)))
