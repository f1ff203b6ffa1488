use Rattle.std.proofs.Common.{arith, ◌≡◌, ◌<◌, ◌+◌, ◌∙◌, ℕ, true, length, ap, sym, subst}
use Rattle.cpt_sheet.specs.declared.data.Cand.TheVariants.{Tok, Out}
use Rattle.cpt_sheet.specs.declared.data.Kind.TheVariants.{Act}
use Rattle.cpt_sheet.specs.declared.data.Sheet.{Sheet}
use Rattle.cpt_sheet.specs.Edits.{with_posted}
use Rattle.cpt_sheet.specs.View.{cands, has, hi, lo}
use Rattle.cpt_calculus.specs.Decisions.{joined}
use Rattle.cpt_calculus.proofs.Reading.{cand_there}
use Rattle.cpt_layout.specs.Sheets.{number_of}
use Rattle.cpt_block.specs.Blocks.{grown}
use Rattle.cpt_cells.proofs.Chains.{keeps_then}
use Rattle.cpt_cells.proofs.Bringing.{bring_is, grown_count, grown_listed, joined_count}
use Rattle.cpt_cells.proofs.deciding.bring.Goals as goal

pub grow-requires-clause-size : goal.grow-requires-clause-size
grow-requires-clause-size g c = c.requires.ready.room.size

pub grow-requires-clause-fits : goal.grow-requires-clause-fits
grow-requires-clause-fits g c = c.requires.ready.room.fits

pub leave-requires-clause-token : goal.leave-requires-clause-token
leave-requires-clause-token g c =
    let s : Sheet = c.args.cells.now.sheet in
    let l : c.args.x < length s.tokens = cand_there s c.args.x c.args.p (Out c.args.a) c.requires.fits in
    let e = c.grow.ensures.sheet c.args.task.now (number_of (lo s (Out c.args.a))) (hi s (Out c.args.a)) c.requires.frame c.requires.ready.listed in
    let k : length c.grow.new.self.sheet.tokens ≡ length s.tokens + 1 = ap (λ (u : Sheet). length u.tokens) e ∙ grown_count c.args.task.now s (Act c.args.a) (number_of (lo s (Out c.args.a))) (hi s (Out c.args.a)) in
    omega arith

pub leave-requires-clause-listed : goal.leave-requires-clause-listed
leave-requires-clause-listed g c =
    let s : Sheet = c.args.cells.now.sheet in
    let l : c.args.x < length s.tokens = cand_there s c.args.x c.args.p (Out c.args.a) c.requires.fits in
    let e = c.grow.ensures.sheet c.args.task.now (number_of (lo s (Out c.args.a))) (hi s (Out c.args.a)) c.requires.frame c.requires.ready.listed in
    subst (λ (n : ℕ). has (Tok n) (cands c.grow.new.self.sheet c.args.x c.args.p) ≡ true) (sym c.tokens-n.ensures.value)
    (subst (λ (u : Sheet). has (Tok (length s.tokens)) (cands u c.args.x c.args.p) ≡ true) (sym e)
    (grown_listed c.args.task.now s c.args.x c.args.p c.args.a (number_of (lo s (Out c.args.a))) (hi s (Out c.args.a)) l c.requires.fits))

pub order_new-requires-clause-two : goal.order_new-requires-clause-two
order_new-requires-clause-two g c = omega (arith, c.requires.formed.two, c.tokens-n.ensures.value)

pub order_new-requires-clause-user : goal.order_new-requires-clause-user
order_new-requires-clause-user g c =
    let s : Sheet = c.args.cells.now.sheet in
    let l : c.args.x < length s.tokens = cand_there s c.args.x c.args.p (Out c.args.a) c.requires.fits in
    omega (arith, c.tokens-n.ensures.value)

pub order_new-requires-clause-there : goal.order_new-requires-clause-there
order_new-requires-clause-there g c =
    let s : Sheet = c.args.cells.now.sheet in
    let e = c.grow.ensures.sheet c.args.task.now (number_of (lo s (Out c.args.a))) (hi s (Out c.args.a)) c.requires.frame c.requires.ready.listed in
    let k : length c.grow.new.self.sheet.tokens ≡ length s.tokens + 1 = ap (λ (u : Sheet). length u.tokens) e ∙ grown_count c.args.task.now s (Act c.args.a) (number_of (lo s (Out c.args.a))) (hi s (Out c.args.a)) in
    let j : length c.leave.new.self.sheet.tokens ≡ length c.grow.new.self.sheet.tokens = ap (λ (u : Sheet). length u.tokens) c.leave.ensures.sheet ∙ joined_count c.grow.new.self.sheet c.args.x c.args.p c.tokens-n.result in
    omega (arith, c.tokens-n.ensures.value)

pub returns-clause-sheet : goal.returns-clause-sheet
returns-clause-sheet g c =
    let s : Sheet = c.args.cells.now.sheet in
    let x : ℕ = c.args.x in
    let p : ℕ = c.args.p in
    let ordered : Sheet → ℕ → Sheet = λ u n. with_posted (with_posted (with_posted u 0 n) n 1) n x in
    let e : c.grow.new.self.sheet ≡ grown c.args.task.now s (Act c.args.a) (number_of (lo s (Out c.args.a))) (hi s (Out c.args.a)) =
    c.grow.ensures.sheet c.args.task.now (number_of (lo s (Out c.args.a))) (hi s (Out c.args.a)) c.requires.frame c.requires.ready.listed in
    c.order_new.ensures.sheet
    ∙ (ap (λ (u : Sheet). ordered u c.tokens-n.result) (c.leave.ensures.sheet ∙ ap (λ (u : Sheet). joined u x p c.tokens-n.result) e)
    ∙ (ap (λ (n : ℕ). ordered (joined (grown c.args.task.now s (Act c.args.a) (number_of (lo s (Out c.args.a))) (hi s (Out c.args.a))) x p n) n) c.tokens-n.ensures.value
    ∙ bring_is c.args.task.now s x p c.args.a c.requires.formed c.requires.fits))

pub returns-clause-marks : goal.returns-clause-marks
returns-clause-marks g c =
    keeps_then c.args.cells.now.marks c.grow.new.self.marks c.order_new.new.cells.marks c.grow.ensures.marks
    (keeps_then c.grow.new.self.marks c.leave.new.self.marks c.order_new.new.cells.marks c.leave.ensures.marks c.order_new.ensures.marks)
