use Rattle.cpt_outcome.proofs.PlanLemmas.{one-plan}
use Rattle.cpt_outcome.proofs.laws.one_plan.Goals as goal

pub returns : goal.returns
returns c = one-plan
