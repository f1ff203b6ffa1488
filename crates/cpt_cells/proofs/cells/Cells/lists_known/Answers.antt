use Rattle.std.proofs.Common.{arith, ◌<◌, ◌==◌, ◌∙◌, ℕ, length, get_or, ap, sym, subst}
use Rattle.cpt_sheet.specs.declared.data.Cand.TheVariants.{Tok}
use Rattle.cpt_sheet.specs.View.{has}
use Rattle.cpt_layout.specs.Places.{Frame, Place, member, needs_at}
use Rattle.cpt_layout.specs.Sheets.{number_at, sheet_from}
use Rattle.cpt_layout.proofs.Numbering.{cell_below}
use Rattle.cpt_block.specs.Blocks.{list_in}
use Rattle.cpt_cells.specs.Shapes.{CellsShape}
use Rattle.cpt_cells.proofs.Listed.{tok_is_there, tok_itself, tok_listed, token_in}
use Rattle.cpt_cells.proofs.cells.Cells.lists_known.Goals as goal

pub token_cand_cell-requires-clause-there : goal.token_cand_cell-requires-clause-there
token_cand_cell-requires-clause-there c =
    let s : Frame = c.self.inside.layout.frame in
    let l : c.args.x < length s.kinds = token_in s c.self.inside.trail.cells c.args.self.now c.args.x (ap (λ (t : CellsShape). t.sheet) c.self.view_is) c.requires.token in
    let n : c.args.j < length (needs_at s c.args.x) = subst (λ (t : CellsShape). c.args.j < length (needs_at t.frame c.args.x)) (sym c.self.view_is) c.requires.need in
    let b : c.args.y < length s.kinds = subst (λ (t : CellsShape). c.args.y < length t.frame.kinds) (sym c.self.view_is) c.requires.known in
    tok_is_there s c.args.x c.args.j c.args.y l n b c.if-y-x.false

pub get-requires : goal.get-requires
get-requires c =
    let s : Frame = c.self.inside.layout.frame in
    let l : c.args.x < length s.kinds = token_in s c.self.inside.trail.cells c.args.self.now c.args.x (ap (λ (t : CellsShape). t.sheet) c.self.view_is) c.requires.token in
    let n : c.args.j < length (needs_at s c.args.x) = subst (λ (t : CellsShape). c.args.j < length (needs_at t.frame c.args.x)) (sym c.self.view_is) c.requires.need in
    let b : c.args.y < length s.kinds = subst (λ (t : CellsShape). c.args.y < length t.frame.kinds) (sym c.self.view_is) c.requires.known in
    let k = cell_below s (member c.args.x c.args.j (Tok c.args.y)) (tok_is_there s c.args.x c.args.j c.args.y l n b c.if-y-x.false) in
    omega (arith, c.token_cand_cell.ensures, c.self.invariant.cells)

pub returns-then-y-x : goal.returns-then-y-x
returns-then-y-x c =
    let s : Frame = c.self.inside.layout.frame in
    let v : Place → ℕ = number_at s c.self.inside.trail.cells in
    let l : c.args.x < length s.kinds = token_in s c.self.inside.trail.cells c.args.self.now c.args.x (ap (λ (t : CellsShape). t.sheet) c.self.view_is) c.requires.token in
    let n : c.args.j < length (needs_at s c.args.x) = subst (λ (t : CellsShape). c.args.j < length (needs_at t.frame c.args.x)) (sym c.self.view_is) c.requires.need in
    tok_itself s v c.args.x c.args.j l n
    ∙ (ap (λ (i : ℕ). has (Tok i) (list_in (sheet_from s v) c.args.x c.args.j)) (sym c.if-y-x.true) ∙ ap (λ (t : CellsShape). has (Tok c.args.y) (list_in t.sheet c.args.x c.args.j)) c.self.view_is)

pub returns-else-y-x : goal.returns-else-y-x
returns-else-y-x c =
    let s : Frame = c.self.inside.layout.frame in
    let v : Place → ℕ = number_at s c.self.inside.trail.cells in
    let l : c.args.x < length s.kinds = token_in s c.self.inside.trail.cells c.args.self.now c.args.x (ap (λ (t : CellsShape). t.sheet) c.self.view_is) c.requires.token in
    let n : c.args.j < length (needs_at s c.args.x) = subst (λ (t : CellsShape). c.args.j < length (needs_at t.frame c.args.x)) (sym c.self.view_is) c.requires.need in
    let b : c.args.y < length s.kinds = subst (λ (t : CellsShape). c.args.y < length t.frame.kinds) (sym c.self.view_is) c.requires.known in
    ap (λ (i : ℕ). i == 1) (c.get.ensures ∙ ap (λ (i : ℕ). get_or c.self.inside.trail.cells i 0) c.token_cand_cell.ensures)
    ∙ (tok_listed s v c.args.x c.args.j c.args.y l n b c.if-y-x.false ∙ ap (λ (t : CellsShape). has (Tok c.args.y) (list_in t.sheet c.args.x c.args.j)) c.self.view_is)
