use Rattle.cpt_explain.proofs.Staging.{pairs_begin, pairs_end}
use Rattle.cpt_explain.proofs.finding.overlaps_of.Goals as goal

pub loop-j-init : goal.loop-j-init
loop-j-init c = pairs_begin c.args.task.now c.args.plan.now c.args.i c.args.faults.now.items c.requires.before

pub returns : goal.returns
returns c = pairs_end c.args.task.now c.args.plan.now c.args.i c.loop-j.j c.loop-j.faults.items c.loop-j-test.false c.loop-j.invariant
