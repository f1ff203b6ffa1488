use Rattle.std.proofs.Common.{subst}
use Rattle.cpt_tables.specs.Spans.{◌<ˢ◌}
use Rattle.cpt_sheet.specs.declared.data.Interval.{Interval}
use Rattle.cpt_outside.proofs.LimitLemmas.{proposes_after11, not_later11, can_after11}
use Rattle.cpt_outside.proofs.limits.after11.Goals as goal

pub returns-then-is_sooner : goal.returns-then-is_sooner
returns-then-is_sooner c =
    proposes_after11 c.args.ctx.now.task.now c.args.ctx.now.tables.now c.args.store.now c.args.a c.args.p c.args.x c.args.y c.arrives-to.result c.requires.lent (c.arrives-to.ensures.fit c.requires.lent.live) c.requires.deletes c.requires.one c.if-can_precede.ensures c.arrives-to.ensures.value (subst (λ (i : Interval). i.lo <ˢ c.arrives-to.result) c.span_at.ensures c.if-is_sooner.ensures)

pub returns-then-can_precede : goal.returns-then-can_precede
returns-then-can_precede c = can_after11 c.args.ctx.now.task.now c.args.ctx.now.tables.now c.args.store.now.sheet c.args.a c.args.p c.args.x c.args.y c.requires.one c.if-can_precede.ensures

pub returns-else-is_sooner : goal.returns-else-is_sooner
returns-else-is_sooner c =
    not_later11 c.args.ctx.now.task.now c.args.ctx.now.tables.now c.args.store.now.sheet c.args.a c.args.p c.args.x c.arrives-to.result c.arrives-to.ensures.value
    (subst (λ (i : Interval). i.lo <ˢ c.arrives-to.result → ⊥) c.span_at.ensures c.if-is_sooner.ensures)
