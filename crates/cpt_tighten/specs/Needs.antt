use Rattle.std.specs.Prelude.{◌≡◌, ℕ, ◌≤◌, ◌<◌, ◌⊎◌, List, length, Contains}
use Rattle.cpt_task.specs.declared.plan.Occ.{Occ}
use Rattle.cpt_task.specs.Shape.{TaskShape}
use Rattle.cpt_task.specs.Timeline.{action_of, end_of, occurrence_at}
use Rattle.cpt_task.specs.Interference.{Interferes}

-- the occurrence at i ends after that at k, or with it and stands no later in the list
abbrev pub IsNoEarlier : TaskShape → List Occ → ℕ → ℕ → Type 0
IsNoEarlier t plan i k =
    (end_of t (occurrence_at plan k) < end_of t (occurrence_at plan i))
    ⊎ ((end_of t (occurrence_at plan k) ≡ end_of t (occurrence_at plan i)) × (i ≤ k))

-- of the places of which P holds, the one with the greatest end, and of these the least
pub record IsLatest (t : TaskShape) (plan : List Occ) (P : ℕ → Type 0) (i : ℕ) : Type 0 where
  pub among : P i
  pub last : (k : ℕ) → P k → IsNoEarlier t plan i k

-- a place of an occurrence that adds the atom and ends by the moment
pub record IsAdder (t : TaskShape) (plan : List Occ) (p moment i : ℕ) : Type 0 where
  pub within : i < length plan
  pub adds : Contains (action_of t (occurrence_at plan i)).add p
  pub ended : end_of t (occurrence_at plan i) ≤ moment

-- the last adder of an atom before a moment
abbrev pub IsLastAdder : TaskShape → List Occ → ℕ → ℕ → ℕ → Type 0
IsLastAdder t plan p moment = IsLatest t plan (IsAdder t plan p moment)

-- the occurrence at i is the last adder of a precondition of that at j before its start
abbrev pub Supports : TaskShape → List Occ → ℕ → ℕ → Type 0
Supports t plan i j = (p : ℕ) × Contains (action_of t (occurrence_at plan j)).pre p × IsLastAdder t plan p (occurrence_at plan j).start i

-- In a plan, place i is needed before place j: it ends no later than j starts, and either the two interfere, or i is the last
-- adder of a precondition of j.
pub record IsNeeded (t : TaskShape) (plan : List Occ) (i j : ℕ) : Type 0 where
  pub first : i < length plan
  pub second : j < length plan
  pub ended : end_of t (occurrence_at plan i) ≤ (occurrence_at plan j).start
  pub cause : Interferes (action_of t (occurrence_at plan i)) (action_of t (occurrence_at plan j)) ⊎ Supports t plan i j
