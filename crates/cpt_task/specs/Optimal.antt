use Rattle.std.specs.Prelude.{ℕ, ◌<◌, ◌≤◌, ◌↔◌, List}
use Rattle.cpt_task.specs.declared.plan.Occ.{Occ}
use Rattle.cpt_task.specs.Shape.{TaskShape}
use Rattle.cpt_task.specs.Timeline.{IsValid, makespan}

-- the plan is valid, and every valid plan of any number of occurrences has at least its makespan
pub record IsOptimal (t : TaskShape) (plan : List Occ) : Type 0 where
  pub valid : IsValid t plan
  pub least : (other : List Occ) → IsValid t other → makespan t plan ≤ makespan t other

-- no valid plan of any number of occurrences has a makespan of at most b
abbrev pub IsRefuted : TaskShape → ℕ → Type 0
IsRefuted t b = (plan : List Occ) → IsValid t plan → makespan t plan ≤ b → ⊥

-- no plan is valid
abbrev pub HasNoPlan : TaskShape → Type 0
HasNoPlan t = (plan : List Occ) → IsValid t plan → ⊥

-- a valid plan is optimal exactly where each bound below its makespan is refuted
abbrev pub OptimalityByRefutation : Type 0
OptimalityByRefutation = (t : TaskShape) (plan : List Occ) → IsValid t plan → IsOptimal t plan ↔ ((b : ℕ) → b < makespan t plan → IsRefuted t b)

-- there is no valid plan exactly where every bound is refuted
abbrev pub NoPlanByRefutation : Type 0
NoPlanByRefutation = (t : TaskShape) → HasNoPlan t ↔ ((b : ℕ) → IsRefuted t b)
