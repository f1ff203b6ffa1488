use Rattle.std.proofs.Common.{subst}
use Rattle.cpt_task.specs.declared.span.Span.TheVariants.{At}
use Rattle.cpt_tables.specs.Spans.{◌<ˢ◌}
use Rattle.cpt_sheet.specs.declared.data.Interval.{Interval}
use Rattle.cpt_outside.proofs.LimitLemmas.{proposes_ahead12}
use Rattle.cpt_outside.proofs.limits.ahead12.Goals as goal

pub returns-then-is_sooner : goal.returns-then-is_sooner
returns-then-is_sooner c =
    proposes_ahead12 c.args.ctx.now.task.now c.args.ctx.now.tables.now c.args.store.now c.args.a c.args.x c.must_begin_by-to.result c.requires.lent c.requires.rival c.if-can_precede.ensures c.must_begin_by-to.ensures (subst (λ (i : Interval). c.must_begin_by-to.result <ˢ At i.hi) c.span_at.ensures c.if-is_sooner.ensures)
