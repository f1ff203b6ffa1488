use Rattle.cpt_tighten.proofs.Passing.{all_passed}
use Rattle.cpt_tighten.proofs.tightening.pass_all.Goals as goal

pub returns : goal.returns
returns c = all_passed c.args.task.now c.args.plan.now c.args.events.now c.loop-k.k c.loop-k.tight c.loop-k.links c.loop-k.records c.loop-k-test.false c.loop-k.invariant
