use Rattle.std.proofs.Common.{◌+◌, sym, subst}
use Rattle.cpt_explain.specs.Stages.{AreMetBy, pairs}
use Rattle.cpt_explain.proofs.Staging.{pair_met, pair_passed}
use Rattle.cpt_explain.proofs.finding.overlap_at.Goals as goal

pub returns-then-not-clash : goal.returns-then-not-clash
returns-then-not-clash c = pair_passed c.args.task.now c.args.plan.now c.args.i c.args.j c.args.faults.now.items (rw c.if-not-clash.true at c.clash.ensures) c.requires.before

pub returns : goal.returns
returns c =
    subst (AreMetBy c.args.task.now c.args.plan.now (pairs c.args.i (c.args.j + 1))) (sym c.in_ok-push.ensures.items)
    (pair_met c.args.task.now c.args.plan.now c.args.i c.args.j c.args.faults.now.items c.requires.ordered c.requires.within (rw c.if-not-clash.false at c.clash.ensures) c.requires.before)
