use Rattle.cpt_solve.proofs.Outcomes.{outcome_once}
use Rattle.cpt_solve.proofs.laws.one_outcome_of_task.Goals as goal

pub returns : goal.returns
returns c = outcome_once
