use Rattle.cpt_explain.proofs.Staging.{needs_over}
use Rattle.cpt_explain.proofs.finding.lacks.Goals as goal

pub returns : goal.returns
returns c = needs_over c.args.task.now c.args.plan.now c.loop-i.i c.loop-i.faults.items c.loop-i-test.false c.loop-i.invariant
