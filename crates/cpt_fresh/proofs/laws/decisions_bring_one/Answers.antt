use Rattle.cpt_fresh.proofs.ExtendLemmas.{decisions_bring_one}
use Rattle.cpt_fresh.proofs.laws.decisions_bring_one.Goals as goal

pub returns : goal.returns
returns c = decisions_bring_one
