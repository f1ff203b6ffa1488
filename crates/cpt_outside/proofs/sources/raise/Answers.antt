use Rattle.std.proofs.Common.{subst}
use Rattle.cpt_tables.specs.Spans.{◌<ˢ◌}
use Rattle.cpt_sheet.specs.declared.data.Interval.{Interval}
use Rattle.cpt_outside.proofs.OutsideLemmas.{offers_there, is_reached, proposes10, not_raised}
use Rattle.cpt_outside.proofs.sources.raise.Goals as goal

pub least_in-to-requires-clause-there : goal.least_in-to-requires-clause-there
least_in-to-requires-clause-there c = offers_there c.args.ctx.now.task.now c.args.ctx.now.tables.now c.args.store.now c.args.p c.offers-list.result.now c.requires.lent c.offers-list.ensures

pub returns-then-reach_in : goal.returns-then-reach_in
returns-then-reach_in c = is_reached c.args.ctx.now.task.now c.args.ctx.now.tables.now c.args.store.now c.args.a c.args.p c.offers-list.result.now c.requires.lent c.offers-list.ensures c.if-reach_in.ensures.0 c.if-reach_in.ensures.1 c.if-reach_in.ensures.2

pub returns-then-is_sooner : goal.returns-then-is_sooner
returns-then-is_sooner c =
    proposes10 c.args.ctx.now.task.now c.args.ctx.now.tables.now c.args.store.now c.args.a c.args.p c.offers-list.result.now c.requires.lent c.offers-list.ensures c.least_in-to.result c.requires.need c.least_in-to.ensures (subst (λ (i : Interval). i.lo <ˢ c.least_in-to.result) c.span_at.ensures c.if-is_sooner.ensures)

pub returns-else-is_sooner : goal.returns-else-is_sooner
returns-else-is_sooner c =
    not_raised c.args.ctx.now.task.now c.args.ctx.now.tables.now c.args.store.now c.args.a c.args.p c.offers-list.result.now c.requires.lent c.offers-list.ensures c.least_in-to.result c.least_in-to.ensures (subst (λ (i : Interval). i.lo <ˢ c.least_in-to.result → ⊥) c.span_at.ensures c.if-is_sooner.ensures)
