use Rattle.cpt_outcome.proofs.OutcomeLemmas.{spent-below-enough}
use Rattle.cpt_outcome.proofs.laws.spent_below_enough.Goals as goal

pub returns : goal.returns
returns c = spent-below-enough
