use Rattle.std.specs.Prelude.{◌≡◌, ℕ, ◌+◌, ◌≤◌, Bool, false, List, [], ◌∷◌, ◌++◌, Option, Some, None}
use Rattle.cpt_task.specs.Shape.{TaskShape}
use Rattle.cpt_tables.specs.declared.tables.Tables.{Tables}
use Rattle.cpt_sheet.specs.declared.data.Sheet.{Sheet}
use Rattle.cpt_sheet.specs.declared.data.Step.{Step}
use Rattle.cpt_sheet.specs.declared.data.Decision.{Decision}
use Rattle.cpt_sheet.specs.Formed.{IsFormed}
use Rattle.cpt_sheet.specs.Gaps.{FitsTask}
use Rattle.cpt_calculus.specs.Rules.{IsLegal}

-- a mark: the sheet when it was set, and how many cells were written since it and before the next mark
pub record Mark : Type 0 where
  pub sheet : Sheet
  pub written : ℕ

-- what is seen of a store: the task that it was made for, its sheet, its marks from the oldest to the newest, the
-- decision for which room stands, and whether there is room for one mark
pub record StoreShape : Type 0 where
  pub task : TaskShape
  pub sheet : Sheet
  pub marks : List Mark
  pub ready : Option Decision
  pub markable : Bool

-- the store was made for this task, the tables fit the task, and the sheet is formed for it
pub record IsLent (t : TaskShape) (b : Tables) (s : StoreShape) : Type 0 where
  pub task : s.task ≡ t
  pub fits : FitsTask t b
  pub formed : IsFormed t s.sheet

-- the step is legal at the sheet for the store's task and some tables that fit it
pub record CanNarrow (s : StoreShape) (step : Step) : Type 0 where
  pub tables : Tables
  pub fits : FitsTask s.task tables
  pub formed : IsFormed s.task s.sheet
  pub legal : IsLegal s.task tables s.sheet step

-- room stands for the decision of this task
pub record IsReady (t : TaskShape) (s : StoreShape) (d : Decision) : Type 0 where
  pub task : s.task ≡ t
  pub ready : s.ready ≡ Some d

-- no room stands
pub record IsSpent (s : StoreShape) : Type 0 where
  pub ready : s.ready ≡ None
  pub markable : s.markable ≡ false

-- the marks stay, but for how many cells were written since the newest
pub data KeepsMarks (old new : List Mark) : Type 0 where
  same : new ≡ old → KeepsMarks old new
  newest : (ms : List Mark) (s : Sheet) (m n : ℕ) → old ≡ ms ++ record { sheet = s; written = m } ∷ [] → new ≡ ms ++ record { sheet = s; written = n } ∷ [] → KeepsMarks old new

-- the newest mark is gone, and the sheet is the one of that mark
pub record IsBack (old new : StoreShape) (before after : ℕ) : Type 0 where
  pub mark : Mark
  pub task : new.task ≡ old.task
  pub marks : old.marks ≡ new.marks ++ mark ∷ []
  pub sheet : new.sheet ≡ mark.sheet
  pub ticks : after ≤ before + mark.written
