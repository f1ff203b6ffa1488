use Rattle.cpt_task.proofs.OptimalityLemmas.{by_all_refuted}
use Rattle.cpt_task.proofs.laws.no_plan_by_refutation.Goals as goal

pub returns : goal.returns
returns c = by_all_refuted
