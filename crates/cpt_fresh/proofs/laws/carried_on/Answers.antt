use Rattle.cpt_fresh.proofs.ExtendLemmas.{carried_on}
use Rattle.cpt_fresh.proofs.laws.carried_on.Goals as goal

pub returns : goal.returns
returns c = carried_on
