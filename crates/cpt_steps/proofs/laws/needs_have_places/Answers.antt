use Rattle.cpt_steps.proofs.PlaceLemmas.{needs_have_places}
use Rattle.cpt_steps.proofs.laws.needs_have_places.Goals as goal

pub returns : goal.returns
returns c = needs_have_places
