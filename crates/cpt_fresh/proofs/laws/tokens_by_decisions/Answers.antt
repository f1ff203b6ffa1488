use Rattle.cpt_fresh.proofs.LastLemmas.{tokens_by_decisions}
use Rattle.cpt_fresh.proofs.laws.tokens_by_decisions.Goals as goal

pub returns : goal.returns
returns c = tokens_by_decisions
