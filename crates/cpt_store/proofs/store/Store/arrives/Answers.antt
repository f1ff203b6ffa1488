use Rattle.cpt_steps.proofs.TightLemmas.{live_arrivals_fit}
use Rattle.cpt_store.proofs.store.Store.arrives.Goals as goal

pub returns-clause-fit : goal.returns-clause-fit
returns-clause-fit c = λ live. live_arrivals_fit c.args.ctx.now.task.now c.args.ctx.now.tables.now c.args.self.now.sheet c.actions.ensures.bounds c.requires.fits c.requires.formed live
