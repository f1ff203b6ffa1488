-- What is answered where a JSON text is no task, or no plan.
use Rattle.std.specs.Prelude.{◌≡◌, ℕ, List, ◌++◌, codes, Result, Ok, Err}
use Rattle.serde_json.specs.Data.{Data}
use Rattle.serde_json.specs.Written.{compact_text}
use Rattle.cpt_answer.specs.declared.ending.Cause.TheVariants.{Passed}
use Rattle.cpt_answer.specs.declared.ending.Ending.{Ending}
use Rattle.cpt_answer.specs.declared.ending.Ending.TheVariants as endings
use Rattle.cpt_answer.specs.Endings.{Answer, answer}
use Rattle.cpt_answer.specs.Lines.{fault_line, line_of}
use Rattle.cpt_json_form.specs.declared.errors.JsonPlanError.{JsonPlanError}
use Rattle.cpt_json_form.specs.declared.errors.JsonPlanError.TheVariants as plan_errors
use Rattle.cpt_json_form.specs.declared.errors.JsonTaskError.{JsonTaskError}
use Rattle.cpt_json_form.specs.declared.errors.JsonTaskError.TheVariants as task_errors
use Rattle.cpt_json_form.specs.Values.{duration_value}

-- the compact text of a value, as a line
abbrev pub json_line : Data → List ℕ
json_line d = line_of (compact_text d)

-- what is answered at a fault of this word of the text of this name
abbrev pub json_fault : (text word : List ℕ) → Result Answer Ending
json_fault text word = Ok (answer 4 (fault_line (text ++ codes " json: " ++ word)))

-- what is answered where a text is no task
abbrev pub task_fault : JsonTaskError → Result Answer Ending
task_fault task_errors.Syntax = json_fault (codes "task") (codes "syntax")
task_fault task_errors.Shape = json_fault (codes "task") (codes "shape")
task_fault (task_errors.Limit which) = Err (endings.Because (Passed which))
task_fault task_errors.BadName = json_fault (codes "task") (codes "name")
task_fault task_errors.Atom = json_fault (codes "task") (codes "atom")
task_fault task_errors.Duration = json_fault (codes "task") (codes "duration")
task_fault task_errors.Memory = Err endings.Memory

-- what is answered where a text is no plan; places count from 0
abbrev pub plan_fault : JsonPlanError → Result Answer Ending
plan_fault plan_errors.Syntax = json_fault (codes "plan") (codes "syntax")
plan_fault plan_errors.Shape = json_fault (codes "plan") (codes "shape")
plan_fault (plan_errors.Unknown place) = json_fault (codes "plan") (codes "unknown")
plan_fault (plan_errors.Limit which) = Err (endings.Because (Passed which))
plan_fault (plan_errors.Duration place right) = Ok (answer 1 (json_line (duration_value place right)))
plan_fault plan_errors.Memory = Err endings.Memory

-- what was read is as Q says, or the fault is the result
abbrev pub ThenJson : {X E : Type 0} → (E → Result Answer Ending) → Result X E → (X → Result Answer Ending → Type 0) → Result Answer Ending → Type 0
ThenJson fault (Ok x) Q r = Q x r
ThenJson fault (Err e) Q r = r ≡ fault e

-- a text is read as P says, and what was read is as Q says, or the fault is the result
abbrev pub AfterReading : {X E : Type 0} → (E → Result Answer Ending) → (Result X E → Type 0) → (X → Result Answer Ending → Type 0) → Result Answer Ending → Type 0
AfterReading {X} {E} fault P Q r = (x : Result X E) × P x × ThenJson fault x Q r
