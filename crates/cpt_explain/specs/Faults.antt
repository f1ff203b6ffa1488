use Rattle.std.specs.Prelude.{◌≡◌, ℕ, ◌<◌, ◌⊎◌, ⊤, false, List, length, All, Contains}
use Rattle.std.specs.List.{AllPairs}
use Rattle.cpt_task.specs.declared.plan.Occ.{Occ}
use Rattle.cpt_task.specs.declared.plan.Verdict.{Verdict}
use Rattle.cpt_task.specs.declared.plan.Verdict.TheVariants.{Valid, Overlap, Unmet, GoalMissing}
use Rattle.cpt_task.specs.Shape.{TaskShape}
use Rattle.cpt_task.specs.Timeline.{action_of, end_of, holds_at, makespan, occurrence_at, Clashes}
use Rattle.cpt_task.specs.Judging.{IsFirstGap}

-- the occurrence at a place lacks the precondition, and first at that moment
pub record Lacks (t : TaskShape) (plan : List Occ) (i p time : ℕ) : Type 0 where
  pub within : i < length plan
  pub needed : Contains (action_of t (occurrence_at plan i)).pre p
  pub first : IsFirstGap t plan (occurrence_at plan i).start (end_of t (occurrence_at plan i)) p time

-- a fault of a plan: two places in order whose occurrences interfere and overlap; an occurrence and a precondition that it lacks, with
-- the least moment; or a goal atom that is missing at the makespan
abbrev pub IsFaultOf : TaskShape → List Occ → Verdict → Type 0
IsFaultOf t plan (Valid m) = ⊥
IsFaultOf t plan (Overlap i j) = (i < j) × (j < length plan) × Clashes t plan i j
IsFaultOf t plan (Unmet i p time) = Lacks t plan i p time
IsFaultOf t plan (GoalMissing p) = Contains t.goal p × (holds_at t plan (makespan t plan) p ≡ false)

-- one pair of numbers before another
abbrev pub PairBefore : (i j k l : ℕ) → Type 0
PairBefore i j k l = (i < k) ⊎ ((i ≡ k) × (j < l))

-- the order of faults: overlaps by their places, then what is lacking by place and atom, then goal atoms
abbrev pub FaultBefore : Verdict → Verdict → Type 0
FaultBefore (Overlap i j) (Overlap k l) = PairBefore i j k l
FaultBefore (Overlap i j) (Unmet k q s) = ⊤
FaultBefore (Overlap i j) (GoalMissing q) = ⊤
FaultBefore (Unmet i p time) (Unmet k q s) = PairBefore i p k q
FaultBefore (Unmet i p time) (GoalMissing q) = ⊤
FaultBefore (GoalMissing p) (GoalMissing q) = p < q
FaultBefore v w = ⊥

-- all the faults of a plan, and no other, in order
pub record AreFaults (t : TaskShape) (plan : List Occ) (faults : List Verdict) : Type 0 where
  pub ordered : AllPairs FaultBefore faults
  pub only : All (IsFaultOf t plan) faults
  pub whole : (v : Verdict) → IsFaultOf t plan v → Contains faults v
