use Rattle.cpt_fresh.proofs.FreshLemmas.{reaches_fresh}
use Rattle.cpt_fresh.proofs.laws.reaches_fresh.Goals as goal

pub returns : goal.returns
returns c = reaches_fresh
