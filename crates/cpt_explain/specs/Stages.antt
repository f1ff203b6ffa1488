use Rattle.std.specs.Prelude.{◌≡◌, ℕ, ◌<◌, ◌⊎◌, List, take, All, Contains}
use Rattle.std.specs.List.{AllPairs}
use Rattle.cpt_task.specs.declared.plan.Occ.{Occ}
use Rattle.cpt_task.specs.declared.plan.Verdict.{Verdict}
use Rattle.cpt_task.specs.declared.plan.Verdict.TheVariants.{Overlap, Unmet, GoalMissing}
use Rattle.cpt_task.specs.Shape.{TaskShape}
use Rattle.cpt_task.specs.Timeline.{action_of, occurrence_at}
use Rattle.cpt_explain.specs.Faults.{FaultBefore, IsFaultOf, PairBefore}

-- how far the faults were gone through: up to the pair of places; all pairs, and then up to a precondition of a place; or all of these,
-- and then up to a goal atom
pub data Stage : Type 0 where
  pairs : ℕ → ℕ → Stage
  needs : ℕ → ℕ → Stage
  goals : ℕ → Stage

-- the faults that were met by then
abbrev pub IsMetBy : TaskShape → List Occ → Stage → Verdict → Type 0
IsMetBy t plan (pairs i j) (Overlap k l) = IsFaultOf t plan (Overlap k l) × PairBefore k l i j
IsMetBy t plan (needs i n) (Overlap k l) = IsFaultOf t plan (Overlap k l)
IsMetBy t plan (goals n) (Overlap k l) = IsFaultOf t plan (Overlap k l)
IsMetBy t plan (needs i n) (Unmet k q s) = IsFaultOf t plan (Unmet k q s) × ((k < i) ⊎ ((k ≡ i) × Contains (take n (action_of t (occurrence_at plan i)).pre) q))
IsMetBy t plan (goals n) (Unmet k q s) = IsFaultOf t plan (Unmet k q s)
IsMetBy t plan (goals n) (GoalMissing q) = IsFaultOf t plan (GoalMissing q) × Contains (take n t.goal) q
IsMetBy t plan stage v = ⊥

-- these are the faults that were met by then, in order
pub record AreMetBy (t : TaskShape) (plan : List Occ) (stage : Stage) (faults : List Verdict) : Type 0 where
  pub ordered : AllPairs FaultBefore faults
  pub only : All (IsMetBy t plan stage) faults
  pub whole : (v : Verdict) → IsMetBy t plan stage v → Contains faults v
