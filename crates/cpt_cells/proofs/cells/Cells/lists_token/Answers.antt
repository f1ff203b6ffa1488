use Rattle.std.proofs.Common.{arith, ◌<◌, ◌≤◌, ◌∙◌, ℕ, length, ap, sym, subst}
use Rattle.cpt_sheet.specs.declared.data.Cand.TheVariants.{Tok}
use Rattle.cpt_sheet.specs.View.{has}
use Rattle.cpt_layout.specs.Places.{Frame, Place, needs_at}
use Rattle.cpt_layout.specs.Sheets.{number_at}
use Rattle.cpt_block.specs.Blocks.{list_in}
use Rattle.cpt_cells.specs.Shapes.{CellsShape}
use Rattle.cpt_cells.proofs.Listed.{tok_unlisted, token_in}
use Rattle.cpt_cells.proofs.cells.Cells.lists_token.Goals as goal

pub returns-else-y-tokens : goal.returns-else-y-tokens
returns-else-y-tokens c =
    let s : Frame = c.self.inside.layout.frame in
    let v : Place → ℕ = number_at s c.self.inside.trail.cells in
    let l : c.args.x < length s.kinds = token_in s c.self.inside.trail.cells c.args.self.now c.args.x (ap (λ (t : CellsShape). t.sheet) c.self.view_is) c.requires.token in
    let n : c.args.j < length (needs_at s c.args.x) = subst (λ (t : CellsShape). c.args.j < length (needs_at t.frame c.args.x)) (sym c.self.view_is) c.requires.need in
    let b : length s.kinds ≤ c.args.y = omega (arith, c.tokens.ensures, c.if-y-tokens.false) in
    tok_unlisted s v c.args.x c.args.j c.args.y l n b ∙ ap (λ (t : CellsShape). has (Tok c.args.y) (list_in t.sheet c.args.x c.args.j)) c.self.view_is
