use Rattle.std.specs.Prelude.{ℕ, ◌≤◌, Contains}
use Rattle.cpt_task.specs.Shape.{TaskShape, InBounds}
use Rattle.cpt_tables.specs.declared.tables.Tables.{Tables}
use Rattle.cpt_sheet.specs.declared.data.Sheet.{Sheet}
use Rattle.cpt_sheet.specs.declared.data.Step.{Step}
use Rattle.cpt_sheet.specs.declared.data.Decision.{Decision}
use Rattle.cpt_sheet.specs.declared.data.Flaw.{Flaw}
use Rattle.cpt_sheet.specs.Formed.{IsFormed}
use Rattle.cpt_sheet.specs.Gaps.{FitsTask}
use Rattle.cpt_calculus.specs.Rules.{IsLegal, narrowed}
use Rattle.cpt_calculus.specs.Root.{root_of}
use Rattle.cpt_calculus.specs.Decisions.{Fits, applied}
use Rattle.cpt_calculus.specs.Flaws.{IsFlaw, children}

-- over tables of the task's sizes the root of a bound of at most a million is formed
abbrev pub RootFormed : Type 0
RootFormed = (t : TaskShape) (b : Tables) (m : ℕ) → InBounds t → FitsTask t b → m ≤ 1000000 → IsFormed t (root_of t b m)

-- a legal step keeps a sheet formed
abbrev pub NarrowFormed : Type 0
NarrowFormed = (t : TaskShape) (b : Tables) (s : Sheet) (step : Step) → IsFormed t s → IsLegal t b s step → IsFormed t (narrowed s step)

-- a decision that fits keeps a sheet formed
abbrev pub ApplyFormed : Type 0
ApplyFormed = (t : TaskShape) (s : Sheet) (d : Decision) → IsFormed t s → Fits s d → IsFormed t (applied t s d)

-- the children of a flaw of a formed sheet fit
abbrev pub ChildrenFit : Type 0
ChildrenFit = (t : TaskShape) (s : Sheet) (flaw : Flaw) → IsFormed t s → IsFlaw t s flaw → (d : Decision) → Contains (children s flaw) d → Fits s d
