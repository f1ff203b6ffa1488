use Rattle.std.specs.Prelude.{◌≡◌, ℕ, ◌<◌, ◌⊎◌, Bool, true, length, All, Contains, slice_index_or}
use Rattle.cpt_task.specs.declared.task.Action.{Action}
use Rattle.cpt_task.specs.Shape.{TaskShape}
use Rattle.cpt_task.specs.Timeline.{idle}

-- a set of atoms, by its test, that holds the initial atoms and, with the preconditions of an action, what the action adds
pub record IsClosed (t : TaskShape) (set : ℕ → Bool) : Type 0 where
  pub initial : All (λ p. set p ≡ true) t.init
  pub added : All (λ a. All (λ p. set p ≡ true) a.pre → All (λ p. set p ≡ true) a.add) t.actions

-- the atom is in the least such set: each such set has it
abbrev pub IsReached : TaskShape → ℕ → Type 0
IsReached t p = (set : ℕ → Bool) → IsClosed t set → set p ≡ true

-- the action of this number
abbrev pub action_at : TaskShape → ℕ → Action
action_at t a = slice_index_or t.actions a idle

-- an action of the task whose preconditions are reached
abbrev pub IsKeptAction : TaskShape → ℕ → Type 0
IsKeptAction t a = (a < length t.actions) × All (IsReached t) (action_at t a).pre

-- an atom that is reached or in the goal
abbrev pub IsKeptAtom : TaskShape → ℕ → Type 0
IsKeptAtom t p = IsReached t p ⊎ Contains t.goal p

-- the reached atoms hold the initial ones and, with the preconditions of an action, what the action adds; and each set that does has them
pub record IsLeast (t : TaskShape) : Type 0 where
  pub initial : All (IsReached t) t.init
  pub added : All (λ a. All (IsReached t) a.pre → All (IsReached t) a.add) t.actions
  pub least : (set : ℕ → Bool) → IsClosed t set → (p : ℕ) → IsReached t p → set p ≡ true

-- the reached atoms of every task are the least set
abbrev pub ReachedIsLeast : Type 0
ReachedIsLeast = (t : TaskShape) → IsLeast t
