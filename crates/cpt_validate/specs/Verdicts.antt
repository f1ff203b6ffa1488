use Rattle.std.specs.Prelude.{◌≡◌, ℕ, List, [], Result, Ok, slice_index, slice_index_or}
use Rattle.cpt_io.specs.Meaning.{Files}
use Rattle.cpt_task.specs.Shape.{TaskShape}
use Rattle.cpt_task.specs.Judging.{Judges}
use Rattle.cpt_task.specs.declared.plan.Verdict.{Verdict}
use Rattle.cpt_task.specs.declared.plan.Verdict.TheVariants.{Valid, Overlap, Unmet, GoalMissing}
use Rattle.cpt_plan_text.specs.declared.reading.PlanText.{PlanText}
use Rattle.cpt_files.specs.declared.accepted.Accepted.{Accepted}
use Rattle.cpt_answer.specs.declared.ending.Ending.{Ending}
use Rattle.cpt_answer.specs.Endings.{Answer}
use Rattle.cpt_files.specs.Accepted.{AcceptsTask}
use Rattle.cpt_answer.specs.Giving.{Then, ThenBy}
use Rattle.cpt_files.specs.Files.{task_under, plan_by, plan_under}
use Rattle.cpt_files.specs.Names.{kept_finds}
use Rattle.cpt_answer.specs.Lines.{valid_line, overlap_line, lacks_line, missing_line}

-- the name of an atom
abbrev pub atom_name : TaskShape → ℕ → List ℕ
atom_name task atom = slice_index_or task.atoms atom []

-- the line of the plan text with the occurrence at a place
abbrev pub line_at : PlanText → ℕ → ℕ
line_at plan place = slice_index plan.lines place

-- the exit status at a verdict: 0 where the plan is valid
abbrev pub verdict_status : Verdict → ℕ
verdict_status (Valid makespan) = 0
verdict_status (Overlap first second) = 1
verdict_status (Unmet place atom time) = 1
verdict_status (GoalMissing atom) = 1

-- the line that tells a verdict
abbrev pub verdict_text : TaskShape → PlanText → Verdict → List ℕ
verdict_text task plan (Valid makespan) = valid_line makespan
verdict_text task plan (Overlap first second) = overlap_line (line_at plan first) (line_at plan second)
verdict_text task plan (Unmet place atom time) = lacks_line (line_at plan place) (atom_name task atom) time
verdict_text task plan (GoalMissing atom) = missing_line (atom_name task atom)

-- what is answered at a verdict
abbrev pub verdict_answer : TaskShape → PlanText → Verdict → Answer
verdict_answer task plan verdict = record { status = verdict_status verdict; text = verdict_text task plan verdict }

-- the answer is that of the plan's verdict
abbrev pub AnswersVerdict : TaskShape → PlanText → Result Answer Ending → Type 0
AnswersVerdict task plan r = (verdict : Verdict) × Judges task plan.occs verdict × (r ≡ Ok (verdict_answer task plan verdict))

-- what judging the plan of one file over the task of another comes to: the task is read and understood before the plan is opened
abbrev pub JudgesFiles : Files → List ℕ → List ℕ → Result Answer Ending → Type 0
JudgesFiles files task_name plan_name = Then (task_under files task_name) (λ task. Then (plan_under files task plan_name) (AnswersVerdict task))

-- the plan in a file, over what two files come to: its actions are named as those of the kept task or as other instances
abbrev pub accepted_plan : Files → Accepted → List ℕ → Result PlanText Ending
accepted_plan files a name = plan_by files (kept_finds a.domain a.problem a.kept) a.kept.task name

-- What judging the plan of a file over the domain and the problem of two others comes to: the kept task is made before the plan is
-- opened, and the plan is judged over it.
abbrev pub JudgesPlan : Files → (domain_name problem_name plan_name : List ℕ) → Result Answer Ending → Type 0
JudgesPlan files domain_name problem_name plan_name =
    ThenBy (AcceptsTask files domain_name problem_name) (λ a. Then (accepted_plan files a plan_name) (AnswersVerdict a.kept.task))
