use Rattle.std.proofs.lemmas.Result.{IfOk-weaker}
use Rattle.cpt_json_write.proofs.reports.value_of.Goals as goal

pub returns-in-Valid : goal.returns-in-Valid
returns-in-Valid c = rw c.in-Valid.is (IfOk-weaker c.valid_value.result _ _ (λ v is. is c.args.task.now) c.valid_value.ensures)

pub returns-in-Overlap : goal.returns-in-Overlap
returns-in-Overlap c = rw c.in-Overlap.is (IfOk-weaker c.overlap_value.result _ _ (λ v is. is c.args.task.now) c.overlap_value.ensures)

pub returns-in_ok-name-in-Unmet : goal.returns-in_ok-name-in-Unmet
returns-in_ok-name-in-Unmet c = rw c.in-Unmet.is (IfOk-weaker c.unmet_value.result _ _ (λ v is. is c.args.task.now c.in-Unmet.atom c.in_ok-name-in-Unmet.ensures) c.unmet_value.ensures)

pub returns-in_ok-name-in-GoalMissing : goal.returns-in_ok-name-in-GoalMissing
returns-in_ok-name-in-GoalMissing c = rw c.in-GoalMissing.is (IfOk-weaker c.missing_value.result _ _ (λ v is. is c.args.task.now c.in-GoalMissing.atom c.in_ok-name-in-GoalMissing.ensures) c.missing_value.ensures)
