use Rattle.cpt_outcome.proofs.OutcomeLemmas.{finds-plans}
use Rattle.cpt_outcome.proofs.laws.finds_plans.Goals as goal

pub returns : goal.returns
returns c = finds-plans
