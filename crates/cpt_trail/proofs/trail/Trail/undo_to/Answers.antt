use Rattle.std.proofs.Common.{arith}
use Rattle.cpt_trail.proofs.Backing.{back_further}
use Rattle.cpt_trail.proofs.trail.Trail.undo_to.Goals as goal

pub loop-self-init : goal.loop-self-init
loop-self-init g c = (omega (arith, c.requires, c.undo_newest.ensures.one), c.undo_newest.ensures.back, c.undo_newest.ensures.ticks)

pub loop-self-preserved : goal.loop-self-preserved
loop-self-preserved g c =
    let k = c.undo_newest-in-loop-self.ensures in (
      omega (arith, c.loop-self-test.true, c.stands.ensures, k.one),
      back_further c.args.self.now c.loop-self.self c.undo_newest-in-loop-self.new.self _ _ c.loop-self.invariant.1 k.back,
      omega (arith, k.ticks, c.loop-self.invariant.2),
    )
