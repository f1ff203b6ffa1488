use Rattle.std.proofs.Common.{◌+◌, sym, subst}
use Rattle.cpt_explain.specs.Stages.{AreMetBy, needs}
use Rattle.cpt_explain.proofs.Staging.{need_met, need_passed}
use Rattle.cpt_explain.proofs.finding.lack_at.Goals as goal

pub returns-in_default : goal.returns-in_default
returns-in_default c =
    need_passed c.args.task.now c.args.plan.now c.args.i c.args.n c.args.faults.now.items (rw c.requires.pre at c.requires.number) (rw c.requires.pre at c.in_default.ensures) c.requires.before

pub returns : goal.returns
returns c =
    subst (AreMetBy c.args.task.now c.args.plan.now (needs c.args.i (c.args.n + 1))) (sym (rw c.requires.pre at c.in_ok-push.ensures.items))
    (need_met c.args.task.now c.args.plan.now c.args.i c.args.n c.in-Some.time c.args.faults.now.items c.requires.within (rw c.requires.pre at c.requires.number) (rw c.requires.pre at c.requires.increasing)
    (rw c.requires.pre at c.in-Some.ensures) c.requires.before)
