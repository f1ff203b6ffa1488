use Rattle.cpt_steps.proofs.LandingLemmas.{lands_there}
use Rattle.cpt_steps.proofs.laws.lands_there.Goals as goal

pub returns : goal.returns
returns c = lands_there
