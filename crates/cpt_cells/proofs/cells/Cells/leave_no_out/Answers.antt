use Rattle.std.proofs.Common.{arith, ◌≡◌, ◌∙◌, ℕ, List, length, get_or, false, refl, ap, sym, subst}
use Rattle.cpt_sheet.specs.declared.data.Cand.TheVariants.{Out}
use Rattle.cpt_sheet.specs.declared.data.Sheet.{Sheet}
use Rattle.cpt_sheet.specs.View.{cands, has}
use Rattle.cpt_layout.specs.Places.{Frame, adders_at}
use Rattle.cpt_cells.specs.Shapes.{same}
use Rattle.cpt_cells.proofs.Chains.{keeps_then}
use Rattle.cpt_cells.proofs.Leaving.{but_none, but_then, more_out}
use Rattle.cpt_cells.proofs.cells.Cells.leave_no_out.Goals as goal

pub let_go_out-requires-clause-token : goal.let_go_out-requires-clause-token
let_go_out-requires-clause-token g c = (let e = c.loop-place.invariant.sheet.tokens in omega (arith, c.requires))

pub let_go_out-requires-clause-place : goal.let_go_out-requires-clause-place
let_go_out-requires-clause-place g c =
    let e : length c.adders-place-end.result.now ≡ length (adders_at c.loop-place.self.frame c.args.p) = ap (λ (bs : List ℕ). length bs) c.adders-place-end.ensures ∙ ap (λ (f : Frame). length (adders_at f c.args.p)) (sym c.loop-place.invariant.frame) in
    omega arith

pub loop-place-init : goal.loop-place-init
loop-place-init g c = record {
  frame = refl;
  sheet = but_none c.args.self.now.sheet c.args.x c.args.p;
  gone = λ k l. absurd (omega arith);
  stays = λ z. refl;
  marks = same refl;
}

pub loop-place-preserved : goal.loop-place-preserved
loop-place-preserved g c =
    let s : Sheet = c.args.self.now.sheet in
    let t : Sheet = c.loop-place.self.sheet in
    let u : Sheet = c.let_go_out.new.self.sheet in
    let i = c.loop-place.invariant in
    let w = c.let_go_out.ensures in
    let here : has (Out (get_or (adders_at c.args.self.now.frame c.args.p) c.loop-place.place 0)) (cands u c.args.x c.args.p) ≡ false =
    subst (λ (f : Frame). has (Out (get_or (adders_at f c.args.p) c.loop-place.place 0)) (cands u c.args.x c.args.p) ≡ false) i.frame w.gone in
    record {
      frame = w.frame ∙ i.frame;
      sheet = but_then s t u c.args.x c.args.p i.sheet w.sheet;
      gone = more_out c.loop-place.place (adders_at c.args.self.now.frame c.args.p) (cands t c.args.x c.args.p) (cands u c.args.x c.args.p) here w.fewer i.gone;
      stays = λ z. w.stays z ∙ i.stays z;
      marks = keeps_then c.args.self.now.marks c.loop-place.self.marks c.let_go_out.new.self.marks i.marks w.marks;
    }
