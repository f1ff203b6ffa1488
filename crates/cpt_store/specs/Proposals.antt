use Rattle.std.specs.Prelude.{◌≡◌, ℕ, true, List}
use Rattle.cpt_task.specs.Shape.{TaskShape}
use Rattle.cpt_tables.specs.declared.tables.Tables.{Tables}
use Rattle.cpt_sheet.specs.declared.data.Cand.{Cand}
use Rattle.cpt_sheet.specs.declared.data.Sheet.{Sheet}
use Rattle.cpt_sheet.specs.declared.data.Step.{Step}
use Rattle.cpt_calculus.specs.Rules.{IsLegal, is_of}
use Rattle.cpt_steps.specs.Landing.{LandsAt}
use Rattle.cpt_steps.specs.Tight.{IsTight}

-- a legal step of these rules that lands at the subject and has the very value of its row
pub record IsProposed (rules : List ℕ) (t : TaskShape) (b : Tables) (s : Sheet) (c : Cand) (step : Step) : Type 0 where
  pub rule : is_of rules step ≡ true
  pub legal : IsLegal t b s step
  pub lands : LandsAt s step c
  pub tight : IsTight t b s step
