use Rattle.std.proofs.Common.{arith, ◌≡◌, ◌<◌, ℕ, List, length, ap}
use Rattle.cpt_sheet.specs.declared.data.Sheet.{Sheet}
use Rattle.cpt_sheet.specs.View.{cands}
use Rattle.cpt_layout.specs.Places.{Frame, atom_at, needs_at}
use Rattle.cpt_block.specs.Blocks.{list_in}
use Rattle.cpt_cells.proofs.Nths.{single_is}
use Rattle.cpt_cells.proofs.cells.Cells.supplier.Goals as goal

pub returns : goal.returns
returns c =
    let s : Sheet = c.args.self.now.sheet in
    let f : Frame = c.args.self.now.frame in
    let x : ℕ = c.args.x in
    let p : ℕ = c.args.p in
    let j : ℕ = c.place-j.result in
    let n : length c.needs.result.now ≡ length (needs_at f x) = ap (λ (zs : List ℕ). length zs) c.needs.ensures.value in
    let b : j < length (needs_at f x) = omega arith in
    single_is f p (atom_at f x j) (cands s x p) (list_in s x j) c.keeps_order.ensures.order (c.place-j.ensures.list b) (c.place-j.ensures.atom b) c.only_token.result (c.has_out.ensures.none c.if-has_out.false) c.only_token.ensures
