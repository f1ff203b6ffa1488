use Rattle.std.specs.Prelude.{ℕ, ◌≤◌, List, All, Contains}
use Rattle.cpt_task.specs.Shape.{TaskShape}
use Rattle.cpt_task.specs.Optimal.{IsRefuted}
use Rattle.cpt_tables.specs.declared.tables.Tables.{Tables}
use Rattle.cpt_sheet.specs.declared.data.Sheet.{Sheet}
use Rattle.cpt_sheet.specs.declared.data.Step.{Step}
use Rattle.cpt_sheet.specs.declared.data.Decision.{Decision}
use Rattle.cpt_sheet.specs.declared.data.Flaw.{Flaw}
use Rattle.cpt_sheet.specs.Gaps.{FitsTask}
use Rattle.cpt_sheet.specs.Live.{IsDead}
use Rattle.cpt_calculus.specs.Rules.{IsLegal, narrowed}
use Rattle.cpt_calculus.specs.Decisions.{applied}
use Rattle.cpt_calculus.specs.Flaws.{IsFlaw, children}
use Rattle.cpt_calculus.specs.Root.{root_of}
use Rattle.cpt_calculus.specs.Closing.{Leads}
use Rattle.cpt_soundness.specs.Acting.{IsAdmissible}
use Rattle.cpt_soundness.specs.Sets.{HasSets}

-- A closed tree stands over the sheet: it is dead, or a legal step leads on from it to a sheet with a closed tree, or
-- it has a flaw and a closed tree stands over the sheet after each of the flaw's children.
pub data IsClosedTree (t : TaskShape) (b : Tables) : Sheet → Type 0 where
  close : (s : Sheet) → IsDead s → IsClosedTree t b s
  narrow : (s : Sheet) (step : Step) → IsLegal t b s step → IsClosedTree t b (narrowed s step) → IsClosedTree t b s
  branch : (s : Sheet) (flaw : Flaw) → IsFlaw t s flaw → ((d : Decision) → Contains (children s flaw) d → IsClosedTree t b (applied t s d)) → IsClosedTree t b s

-- where a closed tree stands over the root of a bound, no valid plan has a makespan of at most that bound
abbrev pub TreeRefutes : Type 0
TreeRefutes =
    (t : TaskShape) (b : Tables) (m : ℕ) → HasSets t → IsAdmissible t b → FitsTask t b → m ≤ 1000000 → IsClosedTree t b (root_of t b m) → IsRefuted t m

-- where legal steps lead on from a sheet to one with a closed tree, a closed tree stands over it
abbrev pub StepsClose : Type 0
StepsClose =
    (rules : List ℕ) (t : TaskShape) (b : Tables) (s : Sheet) (steps : List Step) (u : Sheet) → Leads rules t b s steps u → IsClosedTree t b u → IsClosedTree t b s

-- where a closed tree stands over the sheet after each child of a flaw, one stands over the sheet
abbrev pub BranchesClose : Type 0
BranchesClose =
    (t : TaskShape) (b : Tables) (s : Sheet) (flaw : Flaw) → IsFlaw t s flaw → All (λ d. IsClosedTree t b (applied t s d)) (children s flaw) → IsClosedTree t b s
