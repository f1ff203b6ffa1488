use Rattle.std.specs.Prelude.{◌≡◌, ℕ, ◌≤◌, List}
use Rattle.cpt_task.specs.declared.plan.Occ.{Occ}
use Rattle.cpt_task.specs.Shape.{TaskShape, InBounds}
use Rattle.cpt_task.specs.Timeline.{IsPlan, IsValid, makespan}
use Rattle.cpt_tighten.specs.Chains.{IsChain, total_duration}
use Rattle.cpt_tighten.specs.Schedules.{IsEarliest, IsSchedule, KeepsNeeds}

-- every schedule of a valid plan that keeps its needs is valid
abbrev pub SchedulesAreValid : Type 0
SchedulesAreValid = (t : TaskShape) (plan other : List Occ) → InBounds t → IsValid t plan → IsSchedule plan other → KeepsNeeds t plan other → IsValid t other

-- no schedule that keeps the needs has a smaller makespan than the earliest one
abbrev pub EarliestEndsFirst : Type 0
EarliestEndsFirst = (t : TaskShape) (plan tight other : List Occ) → IsEarliest t plan tight → IsSchedule plan other → KeepsNeeds t plan other → makespan t tight ≤ makespan t other

-- the durations along the chain add up to the makespan
abbrev pub ChainsAddUp : Type 0
ChainsAddUp = (t : TaskShape) (plan tight : List Occ) (chain : List ℕ) → IsSchedule plan tight → IsChain t plan tight chain → total_duration t plan chain ≡ makespan t tight

-- a plan has one earliest schedule
abbrev pub OneEarliest : Type 0
OneEarliest = (t : TaskShape) (plan first second : List Occ) → IsEarliest t plan first → IsEarliest t plan second → first ≡ second

-- a schedule has one chain
abbrev pub OneChain : Type 0
OneChain = (t : TaskShape) (plan tight : List Occ) (first second : List ℕ) → InBounds t → IsPlan t plan → IsSchedule plan tight → IsChain t plan tight first → IsChain t plan tight second → first ≡ second
