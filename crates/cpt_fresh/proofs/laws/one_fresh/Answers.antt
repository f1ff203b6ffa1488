use Rattle.cpt_fresh.proofs.FreshLemmas.{one_fresh}
use Rattle.cpt_fresh.proofs.laws.one_fresh.Goals as goal

pub returns : goal.returns
returns c = one_fresh
