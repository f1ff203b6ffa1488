use Rattle.cpt_tighten.proofs.Turning.{earliest_is_valid}
use Rattle.cpt_tighten.proofs.tightening.tighten.Goals as goal

pub returns-clause-valid : goal.returns-clause-valid
returns-clause-valid c = earliest_is_valid c.args.task.now c.args.plan.now c.with_chain.result c.atoms.ensures.bounds c.requires.valid c.with_chain.ensures.plan
