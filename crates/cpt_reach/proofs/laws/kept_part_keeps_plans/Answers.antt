use Rattle.cpt_reach.proofs.KeptPlans.{keeps_plans}
use Rattle.cpt_reach.proofs.laws.kept_part_keeps_plans.Goals as goal

pub returns : goal.returns
returns c = keeps_plans
