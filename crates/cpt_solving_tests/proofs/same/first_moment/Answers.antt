use Rattle.std.proofs.Common.{refl}
use Rattle.cpt_search.proofs.EngineLemmas.{goal-within}
use Rattle.cpt_solving_tests.proofs.same.first_moment.Goals as goal

pub set_span-requires : goal.set_span-requires
set_span-requires c =
    goal-within c.args.task.now c.args.task.now c.args.tables.now c.args.tables.now c.goal.result.now c.atoms.ensures.bounds c.requires.fits refl refl c.goal.ensures.value
