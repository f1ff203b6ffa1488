use Rattle.cpt_fresh.proofs.FlawLemmas.{closed_for_all}
use Rattle.cpt_fresh.proofs.laws.closed_for_all.Goals as goal

pub returns : goal.returns
returns c = closed_for_all
