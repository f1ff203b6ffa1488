-- Judging a plan over a task, both in their JSON forms.
use Rattle.std.specs.Prelude.{◌≡◌, ◌≢◌, ℕ, ◌⊎◌, List, Result, Ok}
use Rattle.std.specs.Io.KnownBytes.{append_known}
use Rattle.cpt_io.specs.Meaning.{Files}
use Rattle.cpt_task.specs.declared.plan.Occ.{Occ}
use Rattle.cpt_task.specs.declared.plan.Verdict.{Verdict}
use Rattle.cpt_task.specs.declared.plan.Verdict.TheVariants.{Valid, Overlap, Unmet, GoalMissing}
use Rattle.cpt_task.specs.Judging.{Judges}
use Rattle.cpt_task.specs.Shape.{TaskShape}
use Rattle.cpt_task.specs.Timeline.{IsValid, makespan}
use Rattle.cpt_answer.specs.declared.ending.Ending.{Ending}
use Rattle.cpt_answer.specs.Endings.{Answer, answer}
use Rattle.cpt_answer.specs.Giving.{Then}
use Rattle.cpt_answer.specs.Promise.{Call, IsAnswerOf, IsUndisturbed}
use Rattle.cpt_files.specs.Files.{text_under}
use Rattle.cpt_json_form.specs.Reading.{ReadsPlan, ReadsTask}
use Rattle.cpt_json_form.specs.Values.{report_value}
use Rattle.cpt_json_files.specs.Faults.{AfterReading, json_line, plan_fault, task_fault}

-- the exit status at a verdict: 0 where the plan is valid
abbrev pub report_status : Verdict → ℕ
report_status (Valid makespan) = 0
report_status (Overlap first second) = 1
report_status (Unmet place atom time) = 1
report_status (GoalMissing atom) = 1

-- what is answered at a verdict
abbrev pub report_answer : TaskShape → Verdict → Answer
report_answer task verdict = answer (report_status verdict) (json_line (report_value task verdict))

-- the answer is that of the plan's verdict
abbrev pub AnswersReport : TaskShape → List Occ → Result Answer Ending → Type 0
AnswersReport task plan r = (verdict : Verdict) × Judges task plan verdict × (r ≡ Ok (report_answer task verdict))

-- the plan that a text is, over a task, is judged
abbrev pub JudgesText : TaskShape → List ℕ → Result Answer Ending → Type 0
JudgesText task text = AfterReading plan_fault (ReadsPlan task text) (AnswersReport task)

-- the plan of a file is judged over the task that a text is: the task is understood before the plan is opened
abbrev pub JudgesOver : Files → (plan_name text : List ℕ) → Result Answer Ending → Type 0
JudgesOver files plan_name text = AfterReading task_fault (ReadsTask text) (λ task. Then (text_under files plan_name) (JudgesText task))

-- what judging the plan of one file over the task of another comes to
abbrev pub JudgesJson : Files → (task_name plan_name : List ℕ) → Result Answer Ending → Type 0
JudgesJson files task_name plan_name = Then (text_under files task_name) (JudgesOver files plan_name)

-- the two files hold a task and a plan that is valid with that makespan, in their JSON forms
pub record HoldValidJson (files : Files) (task_name plan_name : List ℕ) (task : TaskShape) (m : ℕ) : Type 0 where
  pub task_text : List ℕ
  pub plan_text : List ℕ
  pub plan : List Occ
  pub task_file : text_under files task_name ≡ Ok task_text
  pub plan_file : text_under files plan_name ≡ Ok plan_text
  pub reads_task : ReadsTask task_text (Ok task)
  pub reads_plan : ReadsPlan task plan_text (Ok plan)
  pub valid : IsValid task plan
  pub is : m ≡ makespan task plan

-- what `validate-json` promises of a call, over the files
pub record ValidatesJson (files : Files) (task_name plan_name : List ℕ) (x : Call) : Type 0 where
  -- It answers 0 only where the plan is valid, and then the report of its makespan was written.
  pub valid : x.status ≡ 0 → (task : TaskShape) × (m : ℕ) × HoldValidJson files task_name plan_name task m × (x.new.written ≡ append_known x.old.written (json_line (report_value task (Valid m))))
  -- Where the plan is valid it answers 0, unless a call fails or memory is refused.
  pub validates : (task : TaskShape) (m : ℕ) → HoldValidJson files task_name plan_name task m → IsUndisturbed x
      → (x.status ≡ 9) ⊎ ((x.status ≡ 0) × (x.new.written ≡ append_known x.old.written (json_line (report_value task (Valid m)))))
  -- The files have one answer, which is given, unless a call fails or memory is refused.
  pub complete : (a : Answer) → IsAnswerOf (JudgesJson files task_name plan_name) a → a.status ≢ 7 → IsUndisturbed x
      → (x.status ≡ 9) ⊎ ((x.status ≡ a.status) × (x.new.written ≡ append_known x.old.written a.text))
