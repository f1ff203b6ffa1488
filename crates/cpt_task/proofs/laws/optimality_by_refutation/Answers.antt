use Rattle.cpt_task.proofs.OptimalityLemmas.{by_refutation}
use Rattle.cpt_task.proofs.laws.optimality_by_refutation.Goals as goal

pub returns : goal.returns
returns c = by_refutation
