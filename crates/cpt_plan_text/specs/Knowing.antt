use Rattle.std.specs.Prelude.{◌≡◌, ℕ, ◌+◌, ◌<◌, if◌then◌else◌, List, [], ◌∷◌, length, slice_index_or}
use Rattle.std.specs.Str.{bytes_eq}
use Rattle.cpt_task.specs.declared.task.Action.{Action}
use Rattle.cpt_task.specs.Shape.{TaskShape}
use Rattle.cpt_task.specs.Timeline.{idle}
use Rattle.cpt_plan_text.specs.declared.roster.Found.{Found}
use Rattle.cpt_plan_text.specs.declared.roster.Found.TheVariants.{Known, Unknown}

-- the least number of an action of that name, where the first of the actions has number k
abbrev pub action_named : List Action → ℕ → List ℕ → Found
action_named [] k name = Unknown
action_named (a ∷ more) k name = if bytes_eq a.name name then Known k else action_named more (k + 1) name

-- what a task says of a name
abbrev pub task_finds : TaskShape → List ℕ → Found
task_finds t name = action_named t.actions 0 name

-- each known action is one of so many
abbrev pub KnowsActions : (List ℕ → Found) → ℕ → Type 0
KnowsActions finds count = (name : List ℕ) (act : ℕ) → finds name ≡ Known act → act < count

-- the action of number k has that name
abbrev pub HasName : List Action → List ℕ → ℕ → Type 0
HasName actions name k = (k < length actions) × ((slice_index_or actions k idle).name ≡ name)
