use Rattle.cpt_explain.proofs.Staging.{none_met, pairs_over}
use Rattle.cpt_explain.proofs.finding.overlaps.Goals as goal

pub loop-i-init : goal.loop-i-init
loop-i-init c = none_met c.args.task.now c.args.plan.now c.args.faults.now.items c.requires.before

pub returns : goal.returns
returns c = pairs_over c.args.task.now c.args.plan.now c.loop-i.i c.loop-i.faults.items c.loop-i-test.false c.loop-i.invariant
