use Rattle.std.proofs.Common.{◌<◌, length, All, sym, subst}
use Rattle.cpt_sections.proofs.tabling.is_hopeless.Goals as goal

pub set_span-requires : goal.set_span-requires
set_span-requires c =
    subst (λ n. All (λ p. p < n) c.goal.result.now) (sym c.requires.fits.size) (subst (All (λ p. p < length c.args.task.now.atoms)) (sym c.goal.ensures.value) c.atoms-atoms.ensures.bounds.goal)
