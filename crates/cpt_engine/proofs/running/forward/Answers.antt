use Rattle.std.proofs.Common.{arith, sym, ◌∙◌, subst}
use Rattle.cpt_sheet.specs.declared.data.Sheet.{Sheet}
use Rattle.cpt_sheet.specs.Formed.{IsFormed}
use Rattle.cpt_engine.proofs.RunLemmas.{has_mark, mark_count, back_marks, back_sheet, grown_back, applied_is, formed_applied, count_applied, led_from, marks_from}
use Rattle.cpt_engine.proofs.running.forward.Goals as goal

pub settle-requires-clause-lent : goal.settle-requires-clause-lent
settle-requires-clause-lent g c = record {
  task = c.apply.ensures.task ∙ (c.mark-mark.ensures.task ∙ c.requires.lent.task);
  fits = c.requires.lent.fits;
  formed = formed_applied c.args.ctx.now.task.now _ c.args.store.now.sheet c.args.decision.now (applied_is c.args.ctx.now.task.now _ _ _ c.args.decision.now c.apply.ensures.sheet c.mark-mark.ensures.sheet) c.requires.fits c.requires.lent.formed;
}

pub settle-requires-clause-after : goal.settle-requires-clause-after
settle-requires-clause-after g c = record {
  before = c.args.store.now.sheet;
  formed = c.requires.lent.formed;
  live = c.requires.closed.0;
  closed = c.requires.closed.1;
  fits = c.requires.fits;
  after = applied_is c.args.ctx.now.task.now _ _ _ c.args.decision.now c.apply.ensures.sheet c.mark-mark.ensures.sheet;
}

pub apply-requires-clause-lent : goal.apply-requires-clause-lent
apply-requires-clause-lent g c = record {
  task = c.mark-mark.ensures.task ∙ c.requires.lent.task;
  fits = c.requires.lent.fits;
  formed = subst (λ (z : Sheet). IsFormed c.args.ctx.now.task.now z) (sym c.mark-mark.ensures.sheet) c.requires.lent.formed;
}

pub apply-requires-clause-ready : goal.apply-requires-clause-ready
apply-requires-clause-ready g c = record { task = c.mark-mark.ensures.task ∙ c.requires.ready.task; ready = c.mark-mark.ensures.ready ∙ c.requires.ready.ready }

pub settle-requires-clause-few : goal.settle-requires-clause-few
settle-requires-clause-few g c =
    count_applied c.args.ctx.now.task.now _ c.args.store.now.sheet c.args.decision.now _ (applied_is c.args.ctx.now.task.now _ _ _ c.args.decision.now c.apply.ensures.sheet c.mark-mark.ensures.sheet) (omega (arith, c.requires.few))

pub settle-requires-clause-tokens : goal.settle-requires-clause-tokens
settle-requires-clause-tokens g c =
    count_applied c.args.ctx.now.task.now _ c.args.store.now.sheet c.args.decision.now _ (applied_is c.args.ctx.now.task.now _ _ _ c.args.decision.now c.apply.ensures.sheet c.mark-mark.ensures.sheet) c.requires.tokens

pub returns-in-Ok-clause-led : goal.returns-in-Ok-clause-led
returns-in-Ok-clause-led g c = led_from _ _ _ _ _ _ _ _ (applied_is c.args.ctx.now.task.now _ _ _ c.args.decision.now c.apply.ensures.sheet c.mark-mark.ensures.sheet) c.in-Ok.ensures.led

pub returns-in-Ok-clause-marks : goal.returns-in-Ok-clause-marks
returns-in-Ok-clause-marks g c = has_mark _ _ _ _ (marks_from _ _ _ c.mark-mark.ensures.marks c.apply.ensures.marks) c.in-Ok.ensures.marks

pub undo_to-requires : goal.undo_to-requires
undo_to-requires g c = mark_count _ _ _ _ (has_mark _ _ _ _ (marks_from _ _ _ c.mark-mark.ensures.marks c.apply.ensures.marks) c.in-Err.ensures.marks) c.mark-mark.ensures.number

pub returns-clause-err_sheet : goal.returns-clause-err_sheet
returns-clause-err_sheet g c =
    back_sheet _ _ _ _ _ _ (has_mark _ _ _ _ (marks_from _ _ _ c.mark-mark.ensures.marks c.apply.ensures.marks) c.in-Err.ensures.marks) c.undo_to.ensures.back

pub returns-clause-err_marks : goal.returns-clause-err_marks
returns-clause-err_marks g c =
    back_marks _ _ _ _ _ _ (has_mark _ _ _ _ (marks_from _ _ _ c.mark-mark.ensures.marks c.apply.ensures.marks) c.in-Err.ensures.marks) c.undo_to.ensures.back

pub returns-clause-err_steps : goal.returns-clause-err_steps
returns-clause-err_steps g c = c.truncate.ensures.items ∙ grown_back _ _ _ c.in-Err.ensures.grown (omega (arith, c.len-start.ensures, c.args.steps.now.ok.0))

pub returns-clause-task : goal.returns-clause-task
returns-clause-task g c = c.undo_to.ensures.back.task ∙ c.in-Err.ensures.task
