use Rattle.std.proofs.Common.{◌≡◌, List, Result, Ok, ℕ, sym, ap, ◌∙◌}
use Rattle.cpt_io.specs.Meaning.{Files}
use Rattle.cpt_task.specs.Shape.{TaskShape}
use Rattle.cpt_task.proofs.OneVerdict.{one_verdict}
use Rattle.cpt_plan_text.specs.declared.reading.PlanText.{PlanText}
use Rattle.cpt_answer.specs.declared.ending.Ending.{Ending}
use Rattle.cpt_answer.specs.Endings.{Answer}
use Rattle.cpt_answer.specs.Giving.{Then}
use Rattle.cpt_answer.proofs.Giving.{then_by_once, then_once}
use Rattle.cpt_files.specs.Accepted.{AcceptsTask}
use Rattle.cpt_files.specs.Files.{task_under, plan_under}
use Rattle.cpt_files.proofs.Once.{accepts_once}
use Rattle.cpt_validate.specs.Verdicts.{AnswersVerdict, JudgesFiles, JudgesPlan, accepted_plan, verdict_answer}

verdict_once : (task : TaskShape) (plan : PlanText) (r s : Result Answer Ending) → AnswersVerdict task plan r → AnswersVerdict task plan s → r ≡ s
verdict_once task plan r s h k = h.2 ∙ ap (λ v. Ok (verdict_answer task plan v)) (one_verdict task plan.occs h.0 k.0 h.1 k.1) ∙ sym k.2

-- a task and a plan come to one end
pub judges_files_once : (files : Files) (t p : List ℕ) (r s : Result Answer Ending) → JudgesFiles files t p r → JudgesFiles files t p s → r ≡ s
judges_files_once files t p r s =
    then_once (task_under files t) (λ task. Then (plan_under files task p) (AnswersVerdict task))
    (λ task x y _. then_once (plan_under files task p) (AnswersVerdict task) (λ plan u v _. verdict_once task plan u v) x y) r s

-- and so do a domain, a problem and a plan
pub judges_plan_once : (files : Files) (d p n : List ℕ) (r s : Result Answer Ending) → JudgesPlan files d p n r → JudgesPlan files d p n s → r ≡ s
judges_plan_once files d p n r s =
    then_by_once (AcceptsTask files d p) (λ a. Then (accepted_plan files a n) (AnswersVerdict a.kept.task)) (accepts_once files d p)
    (λ a x y _. then_once (accepted_plan files a n) (AnswersVerdict a.kept.task) (λ plan u v _. verdict_once a.kept.task plan u v) x y) r s
