use Rattle.cpt_steps.proofs.PlaceLemmas.{listed_have_places}
use Rattle.cpt_steps.proofs.laws.listed_have_places.Goals as goal

pub returns : goal.returns
returns c = listed_have_places
