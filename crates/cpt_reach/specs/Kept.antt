use Rattle.std.specs.Prelude.{◌≡◌, ℕ, List, [], All, Contains, map, position, nat_eq, Option, slice_index_or}
use Rattle.std.specs.List.{filter_map}
use Rattle.std.specs.List.Sorted.{IsStrictlyIncreasing}
use Rattle.cpt_task.specs.declared.task.Action.{Action}
use Rattle.cpt_task.specs.Shape.{TaskShape}
use Rattle.cpt_reach.specs.Reached.{IsKeptAtom, IsKeptAction, action_at}

-- the numbers of which P holds, each of them and no other, increasing
pub record IsListOf (P : ℕ → Type 0) (xs : List ℕ) : Type 0 where
  pub increasing : IsStrictlyIncreasing xs
  pub sound : All P xs
  pub whole : (p : ℕ) → P p → Contains xs p

-- the new number of an old one: its place among the kept ones
unfoldable pub new_number : List ℕ → ℕ → Option ℕ
new_number kept p = position (nat_eq p) kept

-- the new numbers of those that are kept
abbrev pub renumbered : List ℕ → List ℕ → List ℕ
renumbered kept xs = filter_map (new_number kept) xs

-- the action with its atoms renumbered
abbrev pub renumbered_action : List ℕ → Action → Action
renumbered_action atoms a = record { name = a.name; dur = a.dur; pre = renumbered atoms a.pre; add = renumbered atoms a.add; dele = renumbered atoms a.dele }

-- the name of an atom
abbrev pub name_at : TaskShape → ℕ → List ℕ
name_at t p = slice_index_or t.atoms p []

-- the new task has the kept atoms and the kept actions of the old one, renumbered in the old order
pub record IsKeptPart (old : TaskShape) (atoms actions : List ℕ) (new : TaskShape) : Type 0 where
  pub kept_atoms : IsListOf (IsKeptAtom old) atoms
  pub kept_actions : IsListOf (IsKeptAction old) actions
  pub new_atoms : new.atoms ≡ map (name_at old) atoms
  pub new_actions : new.actions ≡ map (λ a. renumbered_action atoms (action_at old a)) actions
  pub new_init : new.init ≡ renumbered atoms old.init
  pub new_goal : new.goal ≡ renumbered atoms old.goal
