use Rattle.std.proofs.Common.{sym, ◌∙◌, subst}
use Rattle.cpt_reach.specs.Plans.{KeepsPlans}
use Rattle.cpt_reach.proofs.KeptPlans.{keeps_plans}
use Rattle.cpt_reach.proofs.pruning.prune.Goals as goal

pub returns-clause-plans : goal.returns-clause-plans
returns-clause-plans c =
    subst (KeepsPlans c.args.task.now c.in_ok-kept.kept) (c.deref-2.ensures.value ∙ sym c.from_vec-2.ensures)
    (keeps_plans c.args.task.now c.in_ok-kept.kept c.deref.result.now c.deref-2.result.now c.kept_numbers.ensures.bounds c.in_ok-kept.ensures)
