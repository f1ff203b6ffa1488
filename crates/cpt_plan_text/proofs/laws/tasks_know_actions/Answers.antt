use Rattle.cpt_plan_text.proofs.Finding.{knows_actions}
use Rattle.cpt_plan_text.proofs.laws.tasks_know_actions.Goals as goal

pub returns : goal.returns
returns c = knows_actions
