use Rattle.cpt_reach.proofs.Reaching as lemmas
use Rattle.cpt_reach.proofs.laws.reached_is_least.Goals as goal

pub returns : goal.returns
returns c = lemmas.reached_is_least
