use Rattle.cpt_fresh.proofs.LastLemmas.{fresh_carries}
use Rattle.cpt_fresh.proofs.laws.fresh_carries.Goals as goal

pub returns : goal.returns
returns c = fresh_carries
