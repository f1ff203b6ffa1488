use Rattle.std.proofs.Common.{◌<◌, length, sym, ◌∙◌, subst}
use Rattle.cpt_sheet.specs.declared.data.Sheet.{Sheet}
use Rattle.cpt_sheet.specs.Formed.{IsFormed}
use Rattle.cpt_calculus.specs.Decisions.{Fits}
use Rattle.cpt_scan.proofs.MoveLemmas.{decided_formed, pushed}
use Rattle.cpt_scan.proofs.moves.decide_behind_mark.Goals as goal

pub apply-requires-clause-lent : goal.apply-requires-clause-lent
apply-requires-clause-lent g c = record {
  task = c.mark-mark.ensures.task ∙ (c.in_ok-reserve.ensures.task ∙ c.requires.lent.task);
  fits = c.requires.lent.fits;
  formed = subst (λ (z : Sheet). IsFormed c.args.ctx.now.task.now z) (sym (c.mark-mark.ensures.sheet ∙ c.in_ok-reserve.ensures.sheet)) c.requires.lent.formed;
}

pub apply-requires-clause-fits : goal.apply-requires-clause-fits
apply-requires-clause-fits g c = subst (λ (z : Sheet). Fits z c.args.decision.now) (sym (c.mark-mark.ensures.sheet ∙ c.in_ok-reserve.ensures.sheet)) c.requires.fits

pub apply-requires-clause-ready : goal.apply-requires-clause-ready
apply-requires-clause-ready g c = record {
  task = c.mark-mark.ensures.task ∙ c.in_ok-reserve.ensures.ready.task;
  ready = c.mark-mark.ensures.ready ∙ c.in_ok-reserve.ensures.ready.ready;
}

pub apply-requires-clause-few : goal.apply-requires-clause-few
apply-requires-clause-few g c = subst (λ (z : Sheet). length z.tokens < 4200000000) (sym (c.mark-mark.ensures.sheet ∙ c.in_ok-reserve.ensures.sheet)) c.requires.few

pub returns-clause-lent : goal.returns-clause-lent
returns-clause-lent g c = record {
  task = c.apply.ensures.task ∙ (c.mark-mark.ensures.task ∙ (c.in_ok-reserve.ensures.task ∙ c.requires.lent.task));
  fits = c.requires.lent.fits;
  formed = decided_formed c.args.ctx.now.task.now _ _ c.args.store.now.sheet c.args.decision.now c.apply.ensures.sheet (c.mark-mark.ensures.sheet ∙ c.in_ok-reserve.ensures.sheet) c.requires.fits c.requires.lent.formed;
}

pub returns-clause-marks : goal.returns-clause-marks
returns-clause-marks g c = pushed c.args.store.now.sheet _ c.args.store.now.marks _ _ _ c.in_ok-reserve.ensures.sheet c.in_ok-reserve.ensures.marks c.mark-mark.ensures.marks c.apply.ensures.marks
