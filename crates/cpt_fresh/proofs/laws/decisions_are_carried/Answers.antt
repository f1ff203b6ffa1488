use Rattle.cpt_fresh.proofs.ExtendLemmas.{decisions_are_carried}
use Rattle.cpt_fresh.proofs.laws.decisions_are_carried.Goals as goal

pub returns : goal.returns
returns c = decisions_are_carried
