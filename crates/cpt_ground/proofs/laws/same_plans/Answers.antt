use Rattle.cpt_ground.proofs.Plans as lemmas
use Rattle.cpt_ground.proofs.laws.same_plans.Goals as goal

pub returns : goal.returns
returns c = lemmas.same_plans
