use Rattle.std.proofs.Common.{subst}
use Rattle.cpt_tables.specs.Spans.{◌≤ˢ◌}
use Rattle.cpt_task.specs.declared.span.Span.{Span}
use Rattle.cpt_sheet.specs.declared.data.Cand.TheVariants.{Tok}
use Rattle.cpt_sheet.specs.Gaps.{arrival}
use Rattle.cpt_sheet.proofs.EachLemmas.{each_more}
use Rattle.cpt_calculus.proofs.rules.is_before_each.Goals as goal

pub loop-c-preserved : goal.loop-c-preserved
loop-c-preserved c =
    each_more (λ d. c.args.v ≤ˢ arrival c.args.task.now c.args.tables.now c.args.sheet.now d c.args.d) c.args.list.now c.loop-c.c-index c.loop-c-test.true c.loop-c.invariant (Tok 0)
    (subst (λ (z : Span). c.args.v ≤ˢ z) c.arrives.ensures c.if-not-is_no_later.ensures)
