use Rattle.cpt_outcome.proofs.OrderLemmas.{leaf-plans-valid}
use Rattle.cpt_outcome.proofs.laws.leaf_plans_valid.Goals as goal

pub returns : goal.returns
returns c = leaf-plans-valid
