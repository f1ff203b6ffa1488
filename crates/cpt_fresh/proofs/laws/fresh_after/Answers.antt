use Rattle.cpt_fresh.proofs.FreshLemmas.{fresh_after}
use Rattle.cpt_fresh.proofs.laws.fresh_after.Goals as goal

pub returns : goal.returns
returns c = fresh_after
