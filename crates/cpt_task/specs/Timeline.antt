use Rattle.std.specs.Prelude.{◌≡◌, ℕ, ◌+◌, ◌<◌, ◌≤◌, max, zero, suc, Bool, true, ◌&&◌, ◌||◌, not, nat_eq, List, [], ◌∷◌, length, All, slice_index_or}
use Rattle.std.specs.List.{list_any}
use Rattle.cpt_task.specs.declared.task.Action.{Action}
use Rattle.cpt_task.specs.declared.plan.Occ.{Occ}
use Rattle.cpt_task.specs.Shape.{TaskShape}
use Rattle.cpt_task.specs.Interference.{Interferes}

-- an action that does nothing
abbrev pub idle : Action
idle = record { name = []; dur = 0; pre = []; add = []; dele = [] }

-- the action of an occurrence
abbrev pub action_of : TaskShape → Occ → Action
action_of t o = slice_index_or t.actions o.act idle

-- when an occurrence ends
abbrev pub end_of : TaskShape → Occ → ℕ
end_of t o = o.start + (action_of t o).dur

-- an occurrence of an action of the task
abbrev pub IsOccurrence : TaskShape → Occ → Type 0
IsOccurrence t o = o.act < length t.actions

-- a plan of the task: any number of occurrences, and the same one may stand again
abbrev pub IsPlan : TaskShape → List Occ → Type 0
IsPlan t plan = All (IsOccurrence t) plan

-- the greatest end, and 0 for the empty plan
abbrev pub makespan : TaskShape → List Occ → ℕ
makespan t [] = 0
makespan t (o ∷ os) = max (end_of t o) (makespan t os)

-- each starts before the other ends
pub record Overlaps (t : TaskShape) (o q : Occ) : Type 0 where
  pub first : o.start < end_of t q
  pub second : q.start < end_of t o

-- a number is in a list
abbrev pub is_in : ℕ → List ℕ → Bool
is_in p xs = list_any (nat_eq p) xs

-- some occurrence that ends at that moment adds the atom
abbrev pub adds_at : TaskShape → List Occ → ℕ → ℕ → Bool
adds_at t plan time p = list_any (λ o. nat_eq (end_of t o) time && is_in p (action_of t o).add) plan

-- some occurrence that ends at that moment deletes the atom
abbrev pub deletes_at : TaskShape → List Occ → ℕ → ℕ → Bool
deletes_at t plan time p = list_any (λ o. nat_eq (end_of t o) time && is_in p (action_of t o).dele) plan

-- The state timeline: whether the atom holds at that moment. At 0 the initial atoms hold. Later what held
-- the moment before, without what the occurrences that end now delete, and then with what they add.
abbrev pub holds_at : TaskShape → List Occ → ℕ → ℕ → Bool
holds_at t plan zero p = is_in p t.init
holds_at t plan (suc time) p = (holds_at t plan time p && not (deletes_at t plan (suc time) p)) || adds_at t plan (suc time) p

-- the atom holds at that moment
abbrev pub HoldsThen : TaskShape → List Occ → ℕ → ℕ → Type 0
HoldsThen t plan time p = holds_at t plan time p ≡ true

-- the atom holds at each moment from the first on and before the second
abbrev pub HoldsFrom : TaskShape → List Occ → ℕ → ℕ → ℕ → Type 0
HoldsFrom t plan from to p = (time : ℕ) → from ≤ time → time < to → HoldsThen t plan time p

-- each precondition of the occurrence holds from its start to its end minus 1
abbrev pub IsMet : TaskShape → List Occ → Occ → Type 0
IsMet t plan o = All (HoldsFrom t plan o.start (end_of t o)) (action_of t o).pre

-- the occurrence at a place
abbrev pub occurrence_at : List Occ → ℕ → Occ
occurrence_at plan k = slice_index_or plan k (record { act = 0; start = 0 })

-- the two overlap and interfere
abbrev pub ClashBetween : TaskShape → Occ → Occ → Type 0
ClashBetween t o q = Overlaps t o q × Interferes (action_of t o) (action_of t q)

-- the occurrences at two places overlap and interfere
abbrev pub Clashes : TaskShape → List Occ → ℕ → ℕ → Type 0
Clashes t plan i j = ClashBetween t (occurrence_at plan i) (occurrence_at plan j)

-- no two occurrences at different places overlap and interfere
abbrev pub IsApart : TaskShape → List Occ → Type 0
IsApart t plan = (i j : ℕ) → i < j → j < length plan → Clashes t plan i j → ⊥

-- each atom of the goal holds at the makespan
abbrev pub ReachesGoal : TaskShape → List Occ → Type 0
ReachesGoal t plan = All (HoldsThen t plan (makespan t plan)) t.goal

-- the plan executes on the state timeline and reaches the goal
pub record IsValid (t : TaskShape) (plan : List Occ) : Type 0 where
  pub of_task : IsPlan t plan
  pub apart : IsApart t plan
  pub met : All (IsMet t plan) plan
  pub goal : ReachesGoal t plan
