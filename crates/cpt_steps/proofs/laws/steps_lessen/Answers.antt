use Rattle.cpt_steps.proofs.RoomLemmas.{steps_lessen}
use Rattle.cpt_steps.proofs.laws.steps_lessen.Goals as goal

pub returns : goal.returns
returns c = steps_lessen
