use Rattle.std.proofs.Common.{subst}
use Rattle.cpt_tables.specs.Spans.{◌<ˢ◌}
use Rattle.cpt_sheet.specs.declared.data.Interval.{Interval}
use Rattle.cpt_support.proofs.SupportLemmas.{is_proposed4, supplied}
use Rattle.cpt_support.proofs.support.raise_to.Goals as goal

pub returns-then-is_sooner : goal.returns-then-is_sooner
returns-then-is_sooner c =
    is_proposed4 c.args.ctx.now.task.now c.args.ctx.now.tables.now c.args.store.now c.args.x c.args.p c.args.list.now c.requires.lent c.requires.lists c.args.least c.requires.passed.least c.requires.need (subst (λ (i : Interval). i.lo <ˢ c.args.least) c.span_at.ensures c.if-is_sooner.ensures)

pub returns-else-is_sooner : goal.returns-else-is_sooner
returns-else-is_sooner c =
    supplied c.args.ctx.now.task.now c.args.ctx.now.tables.now c.args.store.now c.args.x c.args.p c.args.list.now c.args.least c.requires.lent c.requires.need c.requires.lists c.requires.passed (subst (λ (i : Interval). i.lo <ˢ c.args.least → ⊥) c.span_at.ensures c.if-is_sooner.ensures)
