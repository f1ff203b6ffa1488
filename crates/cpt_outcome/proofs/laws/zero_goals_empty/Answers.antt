use Rattle.cpt_outcome.proofs.GoalLemmas.{zero-empty}
use Rattle.cpt_outcome.proofs.laws.zero_goals_empty.Goals as goal

pub returns : goal.returns
returns c = zero-empty
