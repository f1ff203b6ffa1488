use Rattle.std.proofs.Common.{◌+◌, sym, ◌∙◌, subst}
use Rattle.cpt_explain.specs.Stages.{AreMetBy, goals}
use Rattle.cpt_explain.proofs.Staging.{goal_met, goal_passed}
use Rattle.cpt_explain.proofs.finding.missing_at.Goals as goal

pub returns-then-holds : goal.returns-then-holds
returns-then-holds c =
    goal_passed c.args.task.now c.args.plan.now c.args.n c.args.faults.now.items c.requires.number (rw (c.requires.end, c.goal.ensures.value) at (sym c.holds.ensures ∙ c.if-holds.true)) c.requires.before

pub returns : goal.returns
returns c =
    subst (AreMetBy c.args.task.now c.args.plan.now (goals (c.args.n + 1))) (sym (rw c.goal.ensures.value at c.in_ok-push.ensures.items))
    (goal_met c.args.task.now c.args.plan.now c.args.n c.args.faults.now.items c.requires.number c.goal.ensures.increasing (rw (c.requires.end, c.goal.ensures.value) at (sym c.holds.ensures ∙ c.if-holds.false)) c.requires.before)
