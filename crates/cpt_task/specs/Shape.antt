use Rattle.std.specs.Prelude.{◌≡◌, ℕ, ◌<◌, ◌≤◌, ◌^◌, ◌⊎◌, List, length, All, Contains, slice_get, Some}
use Rattle.std.specs.List.Sorted.{IsStrictlyIncreasing}
use Rattle.cpt_task.specs.declared.limits.TheConstants.{DURATION_LIMIT}
use Rattle.cpt_task.specs.declared.task.Action.{Action}

-- a task, as contracts see it
pub record TaskShape : Type 0 where
  pub atoms : List (List ℕ)
  pub actions : List Action
  pub init : List ℕ
  pub goal : List ℕ

-- some number of a list is no atom, where there are n
abbrev pub HasBadAtom : ℕ → List ℕ → Type 0
HasBadAtom n xs = (p : ℕ) × Contains xs p × (n ≤ p)

-- some number of an action is no atom, where there are n
abbrev pub ActionHasBadAtom : ℕ → Action → Type 0
ActionHasBadAtom n a = HasBadAtom n a.pre ⊎ HasBadAtom n a.add ⊎ HasBadAtom n a.dele

-- a duration is from 1 to the limit
abbrev pub IsDuration : ℕ → Type 0
IsDuration d = (1 ≤ d) × (d ≤ DURATION_LIMIT)

-- an action's atoms are below n
pub record HasAtomsBelow (n : ℕ) (a : Action) : Type 0 where
  pub pre : All (λ p. p < n) a.pre
  pub add : All (λ p. p < n) a.add
  pub dele : All (λ p. p < n) a.dele

-- the numbers of a task are in range
pub record InBounds (t : TaskShape) : Type 0 where
  pub few_atoms : length t.atoms < 2 ^ 31
  pub few_actions : length t.actions < 2 ^ 31
  pub actions : All (HasAtomsBelow (length t.atoms)) t.actions
  pub durations : All (λ a. IsDuration a.dur) t.actions
  pub init : All (λ p. p < length t.atoms) t.init
  pub goal : All (λ p. p < length t.atoms) t.goal

-- an action's lists are sets: each is strictly increasing
pub record HasSetLists (a : Action) : Type 0 where
  pub pre : IsStrictlyIncreasing a.pre
  pub add : IsStrictlyIncreasing a.add
  pub dele : IsStrictlyIncreasing a.dele

-- every list of atoms of a task is a set
pub record IsOfSets (t : TaskShape) : Type 0 where
  pub pre : All (λ a. IsStrictlyIncreasing a.pre) t.actions
  pub add : All (λ a. IsStrictlyIncreasing a.add) t.actions
  pub dele : All (λ a. IsStrictlyIncreasing a.dele) t.actions
  pub init : IsStrictlyIncreasing t.init
  pub goal : IsStrictlyIncreasing t.goal

-- the first element of which P holds is that at k
pub record IsFirstAt (P : Action → Type 0) (xs : List Action) (k : ℕ) : Type 0 where
  pub within : k < length xs
  pub here : (a : Action) × (slice_get xs k ≡ Some a) × P a
  pub none_before : (j : ℕ) (a : Action) → j < k → slice_get xs j ≡ Some a → P a → ⊥
