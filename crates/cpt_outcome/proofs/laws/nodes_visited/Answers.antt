use Rattle.cpt_outcome.proofs.NodeLemmas.{nodes-visited}
use Rattle.cpt_outcome.proofs.laws.nodes_visited.Goals as goal

pub returns : goal.returns
returns c = nodes-visited
