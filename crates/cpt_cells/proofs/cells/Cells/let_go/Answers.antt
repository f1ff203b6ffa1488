use Rattle.std.proofs.Common.{◌≡◌, ◌∙◌, List, true, refl, ap, sym}
use Rattle.cpt_sheet.specs.declared.data.Cand.{Cand}
use Rattle.cpt_sheet.specs.declared.data.Sheet.{Sheet}
use Rattle.cpt_sheet.specs.Edits.{without}
use Rattle.cpt_sheet.specs.View.{cands, has}
use Rattle.cpt_layout.specs.Places.{all_cands}
use Rattle.cpt_cells.proofs.Leaving.{but_with, list_with, others_left, taken_gone}
use Rattle.cpt_cells.proofs.cells.Cells.let_go.Goals as goal

pub returns-then-holds-clause-sheet : goal.returns-then-holds-clause-sheet
returns-then-holds-clause-sheet g c = but_with c.args.self.now.sheet c.take.new.self.sheet c.args.x c.args.p (without c.args.c) c.requires c.take.ensures.sheet

pub returns-then-holds-clause-gone : goal.returns-then-holds-clause-gone
returns-then-holds-clause-gone g c =
    let s : Sheet = c.args.self.now.sheet in
    let e : cands c.take.new.self.sheet c.args.x c.args.p ≡ without c.args.c (cands s c.args.x c.args.p) = ap (λ (z : Sheet). cands z c.args.x c.args.p) c.take.ensures.sheet ∙ list_with s c.args.x c.args.p (without c.args.c) c.requires refl in
    let h : has c.args.c (cands s c.args.x c.args.p) ≡ true = sym c.holds.ensures ∙ c.if-holds.true in
    ap (λ (cs : List Cand). has c.args.c cs) e
    ∙ taken_gone c.args.c (cands s c.args.x c.args.p) (all_cands c.args.self.now.frame c.args.p) c.keeps_order.ensures.order c.keeps_order.ensures.once h

pub returns-then-holds-clause-others : goal.returns-then-holds-clause-others
returns-then-holds-clause-others g c d q =
    let s : Sheet = c.args.self.now.sheet in
    let e : cands c.take.new.self.sheet c.args.x c.args.p ≡ without c.args.c (cands s c.args.x c.args.p) = ap (λ (z : Sheet). cands z c.args.x c.args.p) c.take.ensures.sheet ∙ list_with s c.args.x c.args.p (without c.args.c) c.requires refl in
    ap (λ (cs : List Cand). has d cs) e ∙ others_left c.args.c d (cands s c.args.x c.args.p) q
