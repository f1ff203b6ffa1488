use Rattle.std.proofs.Common.{arith, ◌≡◌, ◌<◌, ◌≤◌, ◌+◌, ◌∙◌, ℕ, List, length, get_or, ap, sym, Some}
use Rattle.std.specs.Prelude.{Option}
use Rattle.cpt_sheet.specs.declared.data.Cand.{Cand}
use Rattle.cpt_sheet.specs.declared.data.Cand.TheVariants.{Out}
use Rattle.cpt_layout.specs.Places.{Frame, adders_at, atom_at}
use Rattle.cpt_block.specs.Blocks.{bit, list_in}
use Rattle.cpt_cells.proofs.Nths.{is_there, nth_out, outs_more, passes_on}
use Rattle.cpt_cells.proofs.Listed.{adders_in}
use Rattle.cpt_cells.proofs.cells.Cells.nth_out.Goals as goal

pub bounds-adders-i : goal.bounds-adders-i
bounds-adders-i c =
    let e : length c.adders.result.now ≡ length c.adders-i-end.result.now = ap (λ (zs : List ℕ). length zs) (c.adders.ensures ∙ sym c.adders-i-end.ensures) in
    omega arith

pub lists_behind-listed-requires-clause-place : goal.lists_behind-listed-requires-clause-place
lists_behind-listed-requires-clause-place c =
    let f : Frame = c.args.self.now.frame in
    let bs : List ℕ = adders_at f (atom_at f c.args.x c.args.j) in
    let e : c.adders-i-end.result.now ≡ bs = adders_in f c.args.x c.args.j c.needs.result.now c.adders-i-end.result.now c.needs.ensures.value c.adders-i-end.ensures in
    let m : length c.adders-i-end.result.now ≡ length bs = ap (λ (zs : List ℕ). length zs) e in
    omega arith

pub loop-i-preserved : goal.loop-i-preserved
loop-i-preserved c =
    let f : Frame = c.args.self.now.frame in
    let bs : List ℕ = adders_at f (atom_at f c.args.x c.args.j) in
    let e : c.adders-i-end.result.now ≡ bs = adders_in f c.args.x c.args.j c.needs.result.now c.adders-i-end.result.now c.needs.ensures.value c.adders-i-end.ensures in
    let m : length c.adders-i-end.result.now ≡ length bs = ap (λ (zs : List ℕ). length zs) e in
    let cs : List Cand = list_in c.args.self.now.sheet c.args.x c.args.j in
    let i = c.loop-i.invariant in
    let l : c.loop-i.i < length bs = omega arith in
    let p : c.loop-i.passed + bit c.lists_behind-listed.result ≤ c.args.place = passes_on c.lists_behind-listed.result c.loop-i.passed c.args.place (sym c.is_nth.ensures ∙ c.if-is_nth.false) i.most in
    record {
      passed = outs_more cs bs c.loop-i.i c.loop-i.passed c.one_if-passed.result l i.passed (c.one_if-passed.ensures.value ∙ ap bit c.lists_behind-listed.ensures);
      most = omega (arith, p, c.one_if-passed.ensures.value);
    }

pub returns-then-is_nth : goal.returns-then-is_nth
returns-then-is_nth c =
    let f : Frame = c.args.self.now.frame in
    let bs : List ℕ = adders_at f (atom_at f c.args.x c.args.j) in
    let e : c.adders-i-end.result.now ≡ bs = adders_in f c.args.x c.args.j c.needs.result.now c.adders-i-end.result.now c.needs.ensures.value c.adders-i-end.ensures in
    let m : length c.adders-i-end.result.now ≡ length bs = ap (λ (zs : List ℕ). length zs) e in
    let cs : List Cand = list_in c.args.self.now.sheet c.args.x c.args.j in
    let g : get_or bs c.loop-i.i 0 ≡ get_or c.adders.result.now c.loop-i.i 0 = ap (λ (zs : List ℕ). get_or zs c.loop-i.i 0) (sym e ∙ (c.adders-i-end.ensures ∙ sym c.adders.ensures)) in
    let r = is_there c.is_nth.result c.lists_behind-listed.result c.loop-i.passed c.args.place c.is_nth.ensures c.if-is_nth.true in
    let l : c.loop-i.i < length bs = omega arith in
    nth_out cs bs c.loop-i.i c.args.place l (sym c.lists_behind-listed.ensures ∙ r.0) (r.1 ∙ c.loop-i.invariant.passed)
    ∙ ap (λ (a : ℕ). (let o : Option Cand = Some (Out a) in o)) g
