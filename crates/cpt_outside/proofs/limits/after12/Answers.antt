use Rattle.std.proofs.Common.{subst}
use Rattle.cpt_tables.specs.Spans.{◌<ˢ◌}
use Rattle.cpt_sheet.specs.declared.data.Interval.{Interval}
use Rattle.cpt_outside.proofs.LimitLemmas.{proposes_after12}
use Rattle.cpt_outside.proofs.limits.after12.Goals as goal

pub returns-then-is_sooner : goal.returns-then-is_sooner
returns-then-is_sooner c =
    proposes_after12 c.args.ctx.now.task.now c.args.ctx.now.tables.now c.args.store.now c.args.a c.args.x c.arrives-to.result c.requires.lent (c.arrives-to.ensures.fit c.requires.lent.live) c.requires.rival c.if-can_precede.ensures c.arrives-to.ensures.value (subst (λ (i : Interval). i.lo <ˢ c.arrives-to.result) c.span_at.ensures c.if-is_sooner.ensures)
