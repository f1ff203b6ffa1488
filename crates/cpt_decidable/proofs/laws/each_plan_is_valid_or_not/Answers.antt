use Rattle.cpt_decidable.proofs.Plans as lemmas
use Rattle.cpt_decidable.proofs.laws.each_plan_is_valid_or_not.Goals as goal

pub returns : goal.returns
returns c = lemmas.is_valid
