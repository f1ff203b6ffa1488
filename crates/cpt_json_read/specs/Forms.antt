-- The form of a task that a text has.
use Rattle.std.specs.Prelude.{◌≡◌, ℕ, List, Result, Ok}
use Rattle.cpt_task.specs.Shape.{TaskShape}
use Rattle.cpt_json_form.specs.declared.errors.JsonTaskError.{JsonTaskError}
use Rattle.cpt_json_form.specs.declared.errors.JsonTaskError.TheVariants as task_errors
use Rattle.cpt_json_form.specs.Reading.{IsValueOf}
use Rattle.cpt_json_form.specs.Steps.{Finds}
use Rattle.cpt_json_form.specs.Values.{task_value}

-- a text has the form of a task, whatever its names and numbers, or why it has none
abbrev pub HasForm : List ℕ → Result TaskShape JsonTaskError → Type 0
HasForm text = Finds (IsValueOf text) task_errors.Syntax (λ d. Finds (λ t. d ≡ task_value t) task_errors.Shape (λ t r. r ≡ Ok t))
