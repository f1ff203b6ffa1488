use Rattle.cpt_plan_text.proofs.PlanBack.{printed_back, text_back}
use Rattle.cpt_plan_text.proofs.laws.printed_plans_read_back.Goals as goal

pub returns-clause-spelled : goal.returns-clause-spelled
returns-clause-spelled c = printed_back

pub returns-clause-printed : goal.returns-clause-printed
returns-clause-printed c = text_back
