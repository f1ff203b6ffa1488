use Rattle.cpt_outcome.proofs.ChainLemmas.{chains-short}
use Rattle.cpt_outcome.proofs.laws.chains_short.Goals as goal

pub returns : goal.returns
returns c = chains-short
