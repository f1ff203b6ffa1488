use Rattle.cpt_fresh.proofs.LastLemmas.{fresh_extends}
use Rattle.cpt_fresh.proofs.laws.fresh_extends.Goals as goal

pub returns : goal.returns
returns c = fresh_extends
