use Rattle.cpt_plan_files.proofs.Writing.{critical_more}
use Rattle.cpt_plan_files.proofs.text.critical_text.Goals as goal

pub loop-place-preserved : goal.loop-place-preserved
loop-place-preserved c =
    critical_more c.args.task.now c.args.plan.now c.args.chain.now c.loop-place.text.items c.push_critical.new.text.items c.occurrence_at-o.result c.loop-place.place-index c.loop-place-test.true c.loop-place.invariant
    c.occurrence_at-o.ensures c.in_ok-push_critical.ensures
