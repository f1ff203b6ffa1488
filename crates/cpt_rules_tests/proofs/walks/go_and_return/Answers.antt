use Rattle.std.proofs.Common.{sym, ◌∙◌, subst}
use Rattle.cpt_sheet.specs.declared.data.Sheet.{Sheet}
use Rattle.cpt_sheet.specs.Formed.{IsFormed}
use Rattle.cpt_scan.proofs.MoveLemmas.{back_sheet, mark_count, mark_kept}
use Rattle.cpt_rules_tests.proofs.walks.go_and_return.Goals as goal

pub undo_to-requires : goal.undo_to-requires
undo_to-requires g c = mark_count _ _ _ _ (mark_kept _ _ _ _ c.in_ok-mark.ensures.marks c.in_ok-agrees.ensures.marks) c.in_ok-mark.ensures.number

pub is_sheet-is_back-requires : goal.is_sheet-is_back-requires
is_sheet-is_back-requires g c = record {
  task = c.undo_to.ensures.back.task ∙ c.in_ok-agrees.ensures.lent.task;
  fits = c.requires.lent.fits;
  formed = subst (λ (z : Sheet). IsFormed c.args.ctx.now.task.now z) (sym (back_sheet _ _ _ _ _ _ (mark_kept _ _ _ _ c.in_ok-mark.ensures.marks c.in_ok-agrees.ensures.marks) c.undo_to.ensures.back)) c.requires.lent.formed;
}

pub returns-then-agrees : goal.returns-then-agrees
returns-then-agrees g c = record {
  task = c.undo_to.ensures.back.task ∙ c.in_ok-agrees.ensures.lent.task;
  fits = c.requires.lent.fits;
  formed = subst (λ (z : Sheet). IsFormed c.args.ctx.now.task.now z) (sym (back_sheet _ _ _ _ _ _ (mark_kept _ _ _ _ c.in_ok-mark.ensures.marks c.in_ok-agrees.ensures.marks) c.undo_to.ensures.back)) c.requires.lent.formed;
}

pub returns-else-agrees : goal.returns-else-agrees
returns-else-agrees g c = record {
  task = c.undo_to.ensures.back.task ∙ c.in_ok-agrees.ensures.lent.task;
  fits = c.requires.lent.fits;
  formed = subst (λ (z : Sheet). IsFormed c.args.ctx.now.task.now z) (sym (back_sheet _ _ _ _ _ _ (mark_kept _ _ _ _ c.in_ok-mark.ensures.marks c.in_ok-agrees.ensures.marks) c.undo_to.ensures.back)) c.requires.lent.formed;
}
