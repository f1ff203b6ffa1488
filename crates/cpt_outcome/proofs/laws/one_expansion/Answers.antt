use Rattle.cpt_outcome.proofs.NodeLemmas.{one-expansion}
use Rattle.cpt_outcome.proofs.laws.one_expansion.Goals as goal

pub returns : goal.returns
returns c = one-expansion
