use Rattle.std.proofs.Common.{◌≡◌, ◌<◌, ℕ, length, ap, sym, subst}
use Rattle.cpt_sheet.specs.View.{has}
use Rattle.cpt_layout.specs.Places.{Frame, all_cands, atom_at, kept, needs_at}
use Rattle.cpt_layout.specs.Sheets.{number_at}
use Rattle.cpt_block.specs.Blocks.{list_in}
use Rattle.cpt_cells.specs.Shapes.{CellsShape}
use Rattle.cpt_cells.proofs.Listed.{token_in}
use Rattle.cpt_cells.proofs.Ordered.{place_in_order}
use Rattle.cpt_cells.proofs.cells.Cells.keeps_order_at.Goals as goal

pub returns : goal.returns
returns c =
    let s : Frame = c.self.inside.layout.frame in
    let x : ℕ = c.args.x in
    let j : ℕ = c.args.j in
    let l : x < length s.kinds = token_in s c.self.inside.trail.cells c.args.self.now x (ap (λ (t : CellsShape). t.sheet) c.self.view_is) c.requires.token in
    let n : j < length (needs_at s x) = subst (λ (t : CellsShape). j < length (needs_at t.frame x)) (sym c.self.view_is) c.requires.need in
    subst (λ (t : CellsShape). list_in t.sheet x j ≡ kept (λ d. has d (list_in t.sheet x j)) (all_cands t.frame (atom_at t.frame x j))) c.self.view_is
    (place_in_order s (number_at s c.self.inside.trail.cells) x j l n)
