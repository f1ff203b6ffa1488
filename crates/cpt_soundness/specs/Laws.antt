use Rattle.std.specs.Prelude.{ℕ, ◌≤◌, List}
use Rattle.cpt_task.specs.declared.plan.Occ.{Occ}
use Rattle.cpt_task.specs.Shape.{TaskShape}
use Rattle.cpt_task.specs.Timeline.{IsValid, makespan}
use Rattle.cpt_tables.specs.declared.tables.Tables.{Tables}
use Rattle.cpt_sheet.specs.declared.data.Sheet.{Sheet}
use Rattle.cpt_sheet.specs.declared.data.Step.{Step}
use Rattle.cpt_sheet.specs.Formed.{IsFormed}
use Rattle.cpt_sheet.specs.Live.{IsDead}
use Rattle.cpt_calculus.specs.Rules.{IsLegal, narrowed}
use Rattle.cpt_calculus.specs.Root.{root_of}
use Rattle.cpt_calculus.specs.Plans.{Admits}
use Rattle.cpt_soundness.specs.Acting.{IsAdmissible}
use Rattle.cpt_soundness.specs.Sets.{HasSets}

-- the root admits every valid plan with a makespan of at most its bound, under every map
abbrev pub RootAdmits : Type 0
RootAdmits =
    (t : TaskShape) (b : Tables) (m : ℕ) (plan : List Occ) (f : ℕ → ℕ) → IsAdmissible t b → IsValid t plan → makespan t plan ≤ m → Admits t plan f (root_of t b m)

-- a legal step of any rule keeps every plan that a formed sheet admits, under the same map
abbrev pub NarrowKeeps : Type 0
NarrowKeeps =
    (t : TaskShape) (b : Tables) (s : Sheet) (step : Step) (plan : List Occ) (f : ℕ → ℕ) → IsAdmissible t b → IsFormed t s → IsLegal t b s step →
    IsValid t plan → Admits t plan f s → Admits t plan f (narrowed s step)

-- a dead sheet admits no plan
abbrev pub DeadAdmitsNone : Type 0
DeadAdmitsNone =
    (t : TaskShape) (b : Tables) (s : Sheet) (plan : List Occ) (f : ℕ → ℕ) → HasSets t → IsAdmissible t b → IsFormed t s → IsDead s →
    IsValid t plan → Admits t plan f s → ⊥
