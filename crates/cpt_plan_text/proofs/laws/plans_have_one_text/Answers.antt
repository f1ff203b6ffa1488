use Rattle.cpt_plan_text.proofs.OneText.{one_text}
use Rattle.cpt_plan_text.proofs.laws.plans_have_one_text.Goals as goal

pub returns : goal.returns
returns c = one_text
