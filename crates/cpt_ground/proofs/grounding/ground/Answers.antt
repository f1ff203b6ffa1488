use Rattle.cpt_ground.proofs.ReadingFits.{reading_fits}
use Rattle.cpt_ground.proofs.grounding.ground.Goals as goal

pub compile-requires : goal.compile-requires
compile-requires c =
    reading_fits c.args.domain.now c.args.problem.now c.in_ok-signed.signed c.requires.sound c.requires.fits c.in_ok-signed.ensures.exact.1 c.in_ok-signed.ensures.few
