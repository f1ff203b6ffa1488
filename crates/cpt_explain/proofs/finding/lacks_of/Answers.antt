use Rattle.cpt_explain.proofs.Staging.{needs_end}
use Rattle.cpt_explain.proofs.finding.lacks_of.Goals as goal

pub returns : goal.returns
returns c =
    needs_end c.args.task.now c.args.plan.now c.args.i c.loop-n.n c.loop-n.faults.items (rw (c.as_slice-pre.ensures.items, c.action_at.ensures.action) at c.loop-n-test.false) c.loop-n.invariant
