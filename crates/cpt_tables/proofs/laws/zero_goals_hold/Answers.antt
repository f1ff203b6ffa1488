use Rattle.cpt_tables.proofs.GoalLemmas.{zero_goals}
use Rattle.cpt_tables.proofs.laws.zero_goals_hold.Goals as goal

pub returns : goal.returns
returns c = zero_goals
