use Rattle.cpt_steps.proofs.LandingLemmas.{same_change}
use Rattle.cpt_steps.proofs.laws.same_change.Goals as goal

pub returns : goal.returns
returns c = same_change
