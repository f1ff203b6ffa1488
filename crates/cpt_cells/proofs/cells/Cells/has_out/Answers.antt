use Rattle.std.proofs.Common.{arith, ◌≡◌, ◌<◌, ◌∙◌, ℕ, List, length, ap, sym}
use Rattle.cpt_layout.specs.Places.{Frame, adders_at, atom_at}
use Rattle.cpt_block.specs.Blocks.{list_in}
use Rattle.cpt_cells.proofs.Listed.{adders_in}
use Rattle.cpt_cells.proofs.Nths.{outs_none}
use Rattle.cpt_cells.proofs.cells.Cells.has_out.Goals as goal

pub loop-place-preserved : goal.loop-place-preserved
loop-place-preserved c =
    let f : Frame = c.args.self.now.frame in
    let bs : List ℕ = adders_at f (atom_at f c.args.x c.args.j) in
    let e : c.adders-place-end.result.now ≡ bs = adders_in f c.args.x c.args.j c.needs.result.now c.adders-place-end.result.now c.needs.ensures.value c.adders-place-end.ensures in
    let m : length c.adders-place-end.result.now ≡ length bs = ap (λ (zs : List ℕ). length zs) e in
    let l : c.loop-place.place < length bs = omega arith in
    outs_none (list_in c.args.self.now.sheet c.args.x c.args.j) bs c.loop-place.place l c.loop-place.invariant (sym c.lists_behind.ensures ∙ c.if-lists_behind.false)
