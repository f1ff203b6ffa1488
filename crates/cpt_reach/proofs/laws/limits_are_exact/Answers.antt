use Rattle.cpt_reach.proofs.OneAnswer as lemmas
use Rattle.cpt_reach.proofs.laws.limits_are_exact.Goals as goal

pub returns : goal.returns
returns c = lemmas.limits_are_exact
