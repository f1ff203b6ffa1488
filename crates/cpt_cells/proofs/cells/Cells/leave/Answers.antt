use Rattle.std.proofs.Common.{arith, ◌≡◌, ◌≢◌, ◌<◌, ◌∙◌, ℕ, length, get_or, false, sym, subst}
use Rattle.cpt_sheet.specs.declared.data.Cand.TheVariants.{Tok, Out}
use Rattle.cpt_sheet.specs.declared.data.Sheet.{Sheet}
use Rattle.cpt_sheet.specs.View.{cands, has}
use Rattle.cpt_layout.specs.Places.{Frame, adders_at}
use Rattle.cpt_cells.proofs.Chains.{keeps_then}
use Rattle.cpt_cells.proofs.Leaving.{but_one, but_then, one_left}
use Rattle.cpt_cells.proofs.cells.Cells.leave.Goals as goal

pub leave_no_out-requires : goal.leave_no_out-requires
leave_no_out-requires g c = (let e = c.leave_token.ensures.sheet.tokens in omega (arith, c.requires.token))

pub keeps_order-requires : goal.keeps_order-requires
keeps_order-requires g c = (let e = c.leave_token.ensures.sheet.tokens in let k = c.leave_no_out.ensures.sheet.tokens in omega (arith, c.requires.token))

pub returns-clause-frame : goal.returns-clause-frame
returns-clause-frame g c = c.leave_no_out.ensures.frame ∙ c.leave_token.ensures.frame

pub returns-clause-sheet : goal.returns-clause-sheet
returns-clause-sheet g c =
    let x : ℕ = c.args.x in
    let p : ℕ = c.args.p in
    let s : Sheet = c.args.self.now.sheet in
    let t : Sheet = c.leave_token.new.self.sheet in
    let u : Sheet = c.leave_no_out.new.self.sheet in
    let f : Frame = c.args.self.now.frame in
    let a = c.leave_token.ensures in
    let b = c.leave_no_out.ensures in
    let e : c.leave_no_out.new.self.frame ≡ f = b.frame ∙ a.frame in
    let toks : (z : ℕ) → z < length c.leave_no_out.new.self.frame.kinds → z ≢ c.args.y → has (Tok z) (cands u x p) ≡ false = λ z l q. b.stays z ∙ a.gone z (subst (λ (h : Frame). z < length h.kinds) e l) q in
    let outs : (k : ℕ) → k < length (adders_at c.leave_no_out.new.self.frame p) → has (Out (get_or (adders_at c.leave_no_out.new.self.frame p) k 0)) (cands u x p) ≡ false =
    λ k l. subst (λ (h : Frame). has (Out (get_or (adders_at h p) k 0)) (cands u x p) ≡ false) (sym b.frame) (b.gone k (subst (λ (h : Frame). k < length (adders_at h p)) b.frame l)) in
    but_one s u x p c.args.y (but_then s t u x p a.sheet b.sheet)
    (one_left c.leave_no_out.new.self.frame p c.args.y (cands u x p) c.keeps_order.ensures.order c.keeps_order.ensures.once (b.stays c.args.y ∙ (a.stays ∙ c.requires.listed)) toks outs)

pub returns-clause-marks : goal.returns-clause-marks
returns-clause-marks g c = keeps_then c.args.self.now.marks c.leave_token.new.self.marks c.leave_no_out.new.self.marks c.leave_token.ensures.marks c.leave_no_out.ensures.marks
