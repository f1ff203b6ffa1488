use Rattle.std.specs.Prelude.{◌≡◌, ℕ, ◌↔◌, List, All, map, unwrap_or, slice_index_or}
use Rattle.cpt_task.specs.declared.plan.Occ.{Occ}
use Rattle.cpt_task.specs.Shape.{TaskShape, InBounds}
use Rattle.cpt_task.specs.Timeline.{IsPlan, IsValid, makespan}
use Rattle.cpt_task.specs.Optimal.{IsOptimal, IsRefuted, HasNoPlan}
use Rattle.cpt_reach.specs.Reached.{IsKeptAction}
use Rattle.cpt_reach.specs.Kept.{new_number, IsKeptPart}

-- each action of the plan is kept
abbrev pub IsKeptPlan : TaskShape → List Occ → Type 0
IsKeptPlan old plan = All (λ o. IsKeptAction old o.act) plan

-- the occurrence with the new number of its action
abbrev pub renumbered_occurrence : List ℕ → Occ → Occ
renumbered_occurrence actions o = record { act = unwrap_or (new_number actions o.act) 0; start = o.start }

-- the plan with the new numbers of its actions
abbrev pub renumbered_plan : List ℕ → List Occ → List Occ
renumbered_plan actions plan = map (renumbered_occurrence actions) plan

-- the occurrence with the old number of its action
abbrev pub older_occurrence : List ℕ → Occ → Occ
older_occurrence actions o = record { act = slice_index_or actions o.act 0; start = o.start }

-- the plan with the old numbers of its actions
abbrev pub older_plan : List ℕ → List Occ → List Occ
older_plan actions plan = map (older_occurrence actions) plan

-- the two tasks have the same plans, up to the numbers of actions
pub record KeepsPlans (old new : TaskShape) (actions : List ℕ) : Type 0 where
  -- a plan is valid exactly where all its actions are kept and the renumbered plan is valid
  pub valid : (plan : List Occ) → IsValid old plan ↔ (IsKeptPlan old plan × IsValid new (renumbered_plan actions plan))
  pub same_makespan : (plan : List Occ) → IsKeptPlan old plan → makespan new (renumbered_plan actions plan) ≡ makespan old plan
  -- every plan of the new task is the renumbering of one of the old task, that with the old numbers
  pub onto : (plan : List Occ) → IsPlan new plan → IsKeptPlan old (older_plan actions plan) × (renumbered_plan actions (older_plan actions plan) ≡ plan)
  pub optimal : (plan : List Occ) → IsOptimal old plan ↔ (IsKeptPlan old plan × IsOptimal new (renumbered_plan actions plan))
  pub refuted : (bound : ℕ) → IsRefuted old bound ↔ IsRefuted new bound
  pub no_plan : HasNoPlan old ↔ HasNoPlan new

-- the kept part of a task has its plans
abbrev pub KeptPartKeepsPlans : Type 0
KeptPartKeepsPlans = (old new : TaskShape) (atoms actions : List ℕ) → InBounds old → IsKeptPart old atoms actions new → KeepsPlans old new actions
