use Rattle.cpt_soundness.proofs.PlanLemmas as lemmas
use Rattle.cpt_soundness.proofs.laws.goal_bounds.Goals as goal

pub returns : goal.returns
returns c = lemmas.goal_bounds
