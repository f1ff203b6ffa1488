use Rattle.std.specs.Prelude.{◌≡◌, ℕ, ◌≤◌, List, length}
use Rattle.cpt_task.specs.declared.plan.Occ.{Occ}
use Rattle.cpt_task.specs.Shape.{TaskShape}
use Rattle.cpt_task.specs.Timeline.{end_of, occurrence_at}
use Rattle.cpt_tighten.specs.Needs.{IsNeeded}

-- a schedule of the plan: the same actions at the same places, with whatever starts
pub record IsSchedule (plan other : List Occ) : Type 0 where
  pub size : length other ≡ length plan
  pub actions : (k : ℕ) → (occurrence_at other k).act ≡ (occurrence_at plan k).act

-- whatever is needed before another in the plan ends no later than that starts in the schedule
abbrev pub KeepsNeeds : TaskShape → List Occ → List Occ → Type 0
KeepsNeeds t plan other = (i j : ℕ) → IsNeeded t plan i j → end_of t (occurrence_at other i) ≤ (occurrence_at other j).start

-- the schedule that keeps the needs and in which each start is the least of all such schedules
pub record IsEarliest (t : TaskShape) (plan tight : List Occ) : Type 0 where
  pub schedule : IsSchedule plan tight
  pub keeps : KeepsNeeds t plan tight
  pub least : (other : List Occ) → IsSchedule plan other → KeepsNeeds t plan other → (k : ℕ) → (occurrence_at tight k).start ≤ (occurrence_at other k).start
