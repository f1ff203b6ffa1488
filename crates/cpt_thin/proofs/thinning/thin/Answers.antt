use Rattle.std.proofs.Common.{◌+◌, take, subst, sym}
use Rattle.std.specs.List.{AllZip}
use Rattle.cpt_thin.specs.Thinner.{Thins}
use Rattle.cpt_thin.proofs.Thins.{thins_more}
use Rattle.cpt_thin.proofs.thinning.thin.Goals as goal

pub loop-place-preserved : goal.loop-place-preserved
loop-place-preserved c =
    subst (λ z. AllZip Thins (take (c.loop-place.place + 1) c.args.fates.now) z) (sym c.in_ok-push.ensures.items)
    (thins_more c.args.fates.now c.loop-place.place _ c.loop-place.thinner.items c.thinner_fate.result c.loop-place-test.true c.loop-place.invariant c.thinner_fate.ensures)
