use Rattle.std.proofs.Common.{arith, ◌∙◌, refl}
use Rattle.cpt_sheet.specs.declared.data.Sheet.{Sheet}
use Rattle.cpt_sheet.specs.View.{cands}
use Rattle.cpt_cells.specs.Shapes.{same}
use Rattle.cpt_cells.proofs.Chains.{keeps_then}
use Rattle.cpt_cells.proofs.Leaving.{but_none, but_then, more_gone}
use Rattle.cpt_cells.proofs.cells.Cells.leave_token.Goals as goal

pub let_go_other-requires : goal.let_go_other-requires
let_go_other-requires g c = (let e = c.loop-z.invariant.sheet.tokens in omega (arith, c.requires))

pub loop-z-init : goal.loop-z-init
loop-z-init g c = record {
  frame = refl;
  sheet = but_none c.args.self.now.sheet c.args.x c.args.p;
  gone = λ z l q. absurd (omega arith);
  stays = refl;
  marks = same refl;
}

pub loop-z-preserved : goal.loop-z-preserved
loop-z-preserved g c =
    let s : Sheet = c.args.self.now.sheet in
    let t : Sheet = c.loop-z.self.sheet in
    let u : Sheet = c.let_go_other.new.self.sheet in
    let i = c.loop-z.invariant in
    let w = c.let_go_other.ensures in
    record {
      frame = w.frame ∙ i.frame;
      sheet = but_then s t u c.args.x c.args.p i.sheet w.sheet;
      gone = more_gone c.loop-z.z c.args.y (cands t c.args.x c.args.p) (cands u c.args.x c.args.p) w.gone w.others i.gone;
      stays = w.stays ∙ i.stays;
      marks = keeps_then c.args.self.now.marks c.loop-z.self.marks c.let_go_other.new.self.marks i.marks w.marks;
    }
