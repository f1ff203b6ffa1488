use Rattle.cpt_outcome.proofs.EnoughLemmas.{trees-enough}
use Rattle.cpt_outcome.proofs.laws.trees_enough.Goals as goal

pub returns : goal.returns
returns c = trees-enough
