use Rattle.cpt_steps.proofs.RoomLemmas.{changes_lessen}
use Rattle.cpt_steps.proofs.laws.changes_lessen.Goals as goal

pub returns : goal.returns
returns c = changes_lessen
