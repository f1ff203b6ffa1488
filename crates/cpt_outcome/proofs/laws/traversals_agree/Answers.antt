use Rattle.cpt_outcome.proofs.NodeLemmas.{traversals-agree}
use Rattle.cpt_outcome.proofs.laws.traversals_agree.Goals as goal

pub returns : goal.returns
returns c = traversals-agree
