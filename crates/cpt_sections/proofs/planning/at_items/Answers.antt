use Rattle.cpt_sections.proofs.PlanLines.{items_come}
use Rattle.cpt_sections.proofs.planning.at_items.Goals as goal

pub returns-then-items-eq0 : goal.returns-then-items-eq0
returns-then-items-eq0 c = items_come c.args.task.now c.args.items c.behind_plan.result c.if-items-eq0.true c.requires c.behind_plan.ensures
