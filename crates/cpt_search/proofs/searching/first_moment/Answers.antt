use Rattle.cpt_search.proofs.EngineLemmas.{goal-within}
use Rattle.cpt_search.proofs.searching.first_moment.Goals as goal

pub set_span-requires : goal.set_span-requires
set_span-requires g c =
    goal-within c.args.engine.now.task c.ctx-ctx.result.task.now c.args.engine.now.tables c.ctx-ctx.result.tables.now c.goal.result.now c.atoms.ensures.bounds c.state.ensures.stands.fits c.ctx-ctx.ensures.task c.ctx-ctx.ensures.tables c.goal.ensures.value
