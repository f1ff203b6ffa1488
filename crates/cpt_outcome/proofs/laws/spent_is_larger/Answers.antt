use Rattle.cpt_outcome.proofs.OutcomeLemmas.{spent-is-larger}
use Rattle.cpt_outcome.proofs.laws.spent_is_larger.Goals as goal

pub returns : goal.returns
returns c = spent-is-larger
