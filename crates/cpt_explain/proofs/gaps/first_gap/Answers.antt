use Rattle.std.proofs.Common.{sym, ◌∙◌, subst}
use Rattle.cpt_task.specs.Judging.{IsFirstGap}
use Rattle.cpt_task.specs.Timeline.{HoldsFrom}
use Rattle.cpt_explain.proofs.Losing.{gap_at_first, gap_at_loss, no_gap}
use Rattle.cpt_explain.proofs.gaps.first_gap.Goals as goal

pub returns-then-not-holds : goal.returns-then-not-holds
returns-then-not-holds c =
    subst (λ to. IsFirstGap c.args.task.now c.args.plan.now c.args.o.now.start to c.args.p c.args.o.now.start) c.end_at-end.ensures.end
    (gap_at_first c.args.task.now c.args.plan.now c.args.o.now.start c.end_at-end.result c.args.p c.end_at-end.ensures.lasting (sym c.holds.ensures ∙ c.if-not-holds.true))

pub returns-then-first-end : goal.returns-then-first-end
returns-then-first-end c =
    subst (λ to. IsFirstGap c.args.task.now c.args.plan.now c.args.o.now.start to c.args.p c.first_loss-first.result) c.end_at-end.ensures.end
    (gap_at_loss c.args.task.now c.args.plan.now c.args.o.now.start c.end_at-end.result c.args.p c.first_loss-first.result c.first_loss-first.ensures (sym c.holds.ensures ∙ c.if-not-holds.false) c.if-first-end.true)

pub returns-else-first-end : goal.returns-else-first-end
returns-else-first-end c =
    subst (λ to. HoldsFrom c.args.task.now c.args.plan.now c.args.o.now.start to c.args.p) c.end_at-end.ensures.end
    (no_gap c.args.task.now c.args.plan.now c.args.o.now.start c.end_at-end.result c.args.p c.first_loss-first.result c.first_loss-first.ensures (sym c.holds.ensures ∙ c.if-not-holds.false) c.if-first-end.false)
