use Rattle.cpt_fresh.proofs.ExtendLemmas.{decisions_extend}
use Rattle.cpt_fresh.proofs.laws.decisions_extend.Goals as goal

pub returns : goal.returns
returns c = decisions_extend
