use Rattle.cpt_thin.proofs.thinning.is_node.Goals as goal

pub loop-at-preserved : goal.loop-at-preserved
loop-at-preserved c =
    let goes = rw c.in-On.is at c.in_ok-next.ensures in
    goes.going c.loop-at.at c.loop-at.invariant
