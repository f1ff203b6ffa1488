use Rattle.cpt_outcome.proofs.NodeLemmas.{fresh-closed}
use Rattle.cpt_outcome.proofs.laws.fresh_is_closed.Goals as goal

pub returns : goal.returns
returns c = fresh-closed
