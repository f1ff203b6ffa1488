use Rattle.std.proofs.lemmas.List.Elements.{All-more}
use Rattle.cpt_task.specs.Timeline.{IsMet}
use Rattle.cpt_task.proofs.Order.{all_of_taken}
use Rattle.cpt_task.proofs.plan.first_unmet.Goals as goal

pub loop-i-preserved : goal.loop-i-preserved
loop-i-preserved c = All-more (IsMet c.args.task.now c.args.plan.now) c.args.plan.now c.loop-i.i (record { act = 0; start = 0 }) c.loop-i-test.true c.loop-i.invariant c.in_default.ensures

pub returns : goal.returns
returns c = all_of_taken (IsMet c.args.task.now c.args.plan.now) c.args.plan.now c.loop-i.i c.loop-i-test.false c.loop-i.invariant
