use Rattle.std.specs.Prelude.{ℕ, ◌≤◌, List, length, map, All}
use Rattle.std.specs.List.Sorted.{IsStrictlyIncreasing}
use Rattle.cpt_task.specs.declared.task.Action.{Action}
use Rattle.cpt_task.specs.Shape.{TaskShape, InBounds}
use Rattle.cpt_line.specs.Names.{AreNames}

-- the names of actions
abbrev pub names_of : List Action → List (List ℕ)
names_of actions = map (λ a. a.name) actions

-- a list of an action: increasing, and of at most so many numbers
pub record IsShortList (most : ℕ) (ids : List ℕ) : Type 0 where
  pub increasing : IsStrictlyIncreasing ids
  pub short : length ids ≤ most

-- the lists of an action
pub record HasShortLists (a : Action) : Type 0 where
  pub pre : IsShortList 64 a.pre
  pub add : IsShortList 128 a.add
  pub dele : IsShortList 128 a.dele

-- a task that has a spelling that is read: legal and distinct names, numbers in range, and within the limits
pub record IsPlain (t : TaskShape) : Type 0 where
  pub atoms : AreNames t.atoms
  pub actions : AreNames (names_of t.actions)
  pub few_atoms : length t.atoms ≤ 2048
  pub few_actions : length t.actions ≤ 4096
  pub lists : All HasShortLists t.actions
  pub init : IsStrictlyIncreasing t.init
  pub goal : IsStrictlyIncreasing t.goal
  pub bounds : InBounds t
