use Rattle.std.proofs.Common.{arith, ◌≡◌, ◌<◌, ◌∙◌, ℕ, List, length, ap}
use Rattle.cpt_sheet.specs.declared.data.Cand.{Cand}
use Rattle.cpt_layout.specs.Places.{Frame, adders_at, atom_at}
use Rattle.cpt_block.specs.Blocks.{bit, list_in}
use Rattle.cpt_cells.proofs.Nths.{outs_more}
use Rattle.cpt_cells.proofs.Listed.{adders_in}
use Rattle.cpt_cells.proofs.cells.Cells.count_outs.Goals as goal

pub lists_behind-listed-requires-clause-place : goal.lists_behind-listed-requires-clause-place
lists_behind-listed-requires-clause-place c =
    let f : Frame = c.args.self.now.frame in
    let bs : List ℕ = adders_at f (atom_at f c.args.x c.args.j) in
    let e : c.adders-place-end.result.now ≡ bs = adders_in f c.args.x c.args.j c.needs.result.now c.adders-place-end.result.now c.needs.ensures.value c.adders-place-end.ensures in
    let m : length c.adders-place-end.result.now ≡ length bs = ap (λ (zs : List ℕ). length zs) e in
    omega arith

pub loop-place-preserved : goal.loop-place-preserved
loop-place-preserved c =
    let f : Frame = c.args.self.now.frame in
    let bs : List ℕ = adders_at f (atom_at f c.args.x c.args.j) in
    let e : c.adders-place-end.result.now ≡ bs = adders_in f c.args.x c.args.j c.needs.result.now c.adders-place-end.result.now c.needs.ensures.value c.adders-place-end.ensures in
    let m : length c.adders-place-end.result.now ≡ length bs = ap (λ (zs : List ℕ). length zs) e in
    let cs : List Cand = list_in c.args.self.now.sheet c.args.x c.args.j in
    let i = c.loop-place.invariant in
    let l : c.loop-place.place < length bs = omega arith in
    record {
      value = outs_more cs bs c.loop-place.place c.loop-place.count c.one_if-count.result l i.value (c.one_if-count.ensures.value ∙ ap bit c.lists_behind-listed.ensures);
      few = omega (arith, c.one_if-count.ensures.most, i.few);
    }
