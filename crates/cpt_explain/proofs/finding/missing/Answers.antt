use Rattle.cpt_explain.proofs.Staging.{all_met}
use Rattle.cpt_explain.proofs.finding.missing.Goals as goal

pub returns : goal.returns
returns c = all_met c.args.task.now c.args.plan.now c.loop-n.n c.loop-n.faults.items (rw c.goal-n-end.ensures.value at c.loop-n-test.false) c.loop-n.invariant
