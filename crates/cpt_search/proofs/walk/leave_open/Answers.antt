use Rattle.cpt_search.proofs.TraversalLemmas.{open-step}
use Rattle.cpt_search.proofs.walk.leave_open.Goals as goal

pub loop-next-preserved : goal.loop-next-preserved
loop-next-preserved c = λ ds. open-step _ _ _ _ ds _ _ c.in-Some.next c.in-Some.ensures.items c.in_ok-push.ensures.items c.in_ok-push-2.ensures.items (c.loop-next.invariant ds)
