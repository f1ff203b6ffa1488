use Rattle.cpt_outcome.proofs.OutcomeLemmas.{finds-none}
use Rattle.cpt_outcome.proofs.laws.finds_none.Goals as goal

pub returns : goal.returns
returns c = finds-none
