use Rattle.cpt_steps.proofs.LandingLemmas.{steps_can_be_made}
use Rattle.cpt_steps.proofs.laws.steps_can_be_made.Goals as goal

pub returns : goal.returns
returns c = steps_can_be_made
