use Rattle.std.specs.Prelude.{◌≡◌, ℕ, List, Result, Ok}
use Rattle.cpt_io.specs.Meaning.{Files}
use Rattle.cpt_task.specs.Shape.{TaskShape}
use Rattle.cpt_task.specs.Judging.{Judges}
use Rattle.cpt_task.specs.declared.plan.Verdict.{Verdict}
use Rattle.cpt_task.specs.declared.plan.Verdict.TheVariants.{Valid, Overlap, Unmet, GoalMissing}
use Rattle.cpt_plan_text.specs.declared.reading.PlanText.{PlanText}
use Rattle.cpt_answer.specs.declared.ending.Ending.{Ending}
use Rattle.cpt_answer.specs.Endings.{Answer, answer}
use Rattle.cpt_answer.specs.Giving.{Then, ThenBy}
use Rattle.cpt_files.specs.Accepted.{AcceptsTask}
use Rattle.cpt_validate.specs.Verdicts.{accepted_plan, verdict_answer}
use Rattle.cpt_plan_files.specs.Texts.{IsTightText}

-- at a verdict: of a valid plan the text at its earliest, and else the verdict
abbrev pub AnswersAt : TaskShape → PlanText → Verdict → Result Answer Ending → Type 0
AnswersAt task plan (Valid m) r = (text : List ℕ) × IsTightText task plan.occs text × (r ≡ Ok (answer 0 text))
AnswersAt task plan (Overlap i j) r = r ≡ Ok (verdict_answer task plan (Overlap i j))
AnswersAt task plan (Unmet i p time) r = r ≡ Ok (verdict_answer task plan (Unmet i p time))
AnswersAt task plan (GoalMissing p) r = r ≡ Ok (verdict_answer task plan (GoalMissing p))

-- the answer is that at the plan's verdict
abbrev pub AnswersTightly : TaskShape → PlanText → Result Answer Ending → Type 0
AnswersTightly task plan r = (verdict : Verdict) × Judges task plan.occs verdict × AnswersAt task plan verdict r

-- What tightening the plan of a file over the domain and the problem of two others comes to: the kept task is made before the plan is
-- opened, and the plan is tightened over it.
abbrev pub TightensPlan : Files → (domain_name problem_name plan_name : List ℕ) → Result Answer Ending → Type 0
TightensPlan files domain_name problem_name plan_name =
    ThenBy (AcceptsTask files domain_name problem_name) (λ a. Then (accepted_plan files a plan_name) (AnswersTightly a.kept.task))
