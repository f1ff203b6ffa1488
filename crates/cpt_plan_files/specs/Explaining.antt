use Rattle.std.specs.Prelude.{◌≡◌, ℕ, ◌<◌, ◌≤◌, ◌⊎◌, List, [], ◌∷◌, ◌++◌, codes, length, Result, Ok}
use Rattle.std.specs.Fmt.{decimal}
use Rattle.std.specs.List.{flat_map}
use Rattle.cpt_io.specs.Meaning.{Files}
use Rattle.cpt_task.specs.declared.plan.Verdict.{Verdict}
use Rattle.cpt_task.specs.Shape.{TaskShape}
use Rattle.cpt_task.specs.Timeline.{makespan}
use Rattle.cpt_plan_text.specs.declared.reading.PlanText.{PlanText}
use Rattle.cpt_answer.specs.declared.ending.Ending.{Ending}
use Rattle.cpt_answer.specs.Endings.{Answer, answer}
use Rattle.cpt_answer.specs.Giving.{Then, ThenBy}
use Rattle.cpt_answer.specs.Lines.{fault_line, line_of, valid_line}
use Rattle.cpt_explain.specs.Faults.{AreFaults}
use Rattle.cpt_files.specs.Accepted.{AcceptsTask}
use Rattle.cpt_validate.specs.Verdicts.{accepted_plan, verdict_text}

-- how many faults there are
abbrev pub faults_line : ℕ → List ℕ
faults_line n = line_of (codes "faults " ++ decimal n)

-- a line for each fault
abbrev pub fault_lines : TaskShape → PlanText → List Verdict → List ℕ
fault_lines task plan faults = flat_map (λ v. verdict_text task plan v) faults

-- what is answered at the faults of a plan: that it is valid where there is none, and else each of them
abbrev pub faults_answer : TaskShape → PlanText → List Verdict → Answer
faults_answer task plan [] = answer 0 (valid_line (makespan task plan.occs) ++ faults_line 0)
faults_answer task plan (v ∷ vs) = answer 1 (fault_lines task plan (v ∷ vs) ++ faults_line (length (v ∷ vs)))

-- what is answered at a plan of too many occurrences
abbrev pub too_many_answer : Answer
too_many_answer = answer 6 (fault_line (codes "limit lines"))

-- the answer is that at the plan's faults, where it has at most 1,024 occurrences
abbrev pub AnswersFaults : TaskShape → PlanText → Result Answer Ending → Type 0
AnswersFaults task plan r =
    ((1024 < length plan.occs) × (r ≡ Ok too_many_answer))
    ⊎ ((length plan.occs ≤ 1024) × ((faults : List Verdict) × AreFaults task plan.occs faults × (r ≡ Ok (faults_answer task plan faults))))

-- What explaining the plan of a file over the domain and the problem of two others comes to: the kept task is made before the plan is
-- opened, and how many occurrences the plan has counts only once it is read.
abbrev pub ExplainsPlan : Files → (domain_name problem_name plan_name : List ℕ) → Result Answer Ending → Type 0
ExplainsPlan files domain_name problem_name plan_name =
    ThenBy (AcceptsTask files domain_name problem_name) (λ a. Then (accepted_plan files a plan_name) (AnswersFaults a.kept.task))
