use Rattle.cpt_fresh.proofs.FreshLemmas.{one_beginning}
use Rattle.cpt_fresh.proofs.laws.one_beginning.Goals as goal

pub returns : goal.returns
returns c = one_beginning
