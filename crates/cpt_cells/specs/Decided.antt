use Rattle.std.specs.Prelude.{◌≡◌, ℕ, List, length}
use Rattle.cpt_task.specs.Shape.{TaskShape}
use Rattle.cpt_sheet.specs.declared.data.Cand.TheVariants.{Out}
use Rattle.cpt_sheet.specs.declared.data.Decision.{Decision}
use Rattle.cpt_sheet.specs.declared.data.Decision.TheVariants.{Join, Bring, Before}
use Rattle.cpt_sheet.specs.declared.data.Kind.TheVariants.{Act}
use Rattle.cpt_sheet.specs.declared.data.Sheet.{Sheet}
use Rattle.cpt_sheet.specs.View.{hi, lo}
use Rattle.cpt_layout.specs.Places.{Frame}
use Rattle.cpt_layout.specs.Sheets.{number_of}
use Rattle.cpt_block.specs.Blocks.{block}
use Rattle.cpt_cells.specs.Shapes.{CellsShape, HasRoomFor}

-- the cells of the token that is brought of an outside action
abbrev pub brought_cells : TaskShape → Frame → Sheet → ℕ → List ℕ
brought_cells t f s a = block t f s (Act a) (number_of (lo s (Out a))) (hi s (Out a))

-- these are the numbers of the token of the action, and there is room for it
pub record IsReadyToBring (t : TaskShape) (c : CellsShape) (a : ℕ) (numbers : List ℕ) : Type 0 where
  pub listed : numbers ≡ brought_cells t c.frame c.sheet a
  pub room : HasRoomFor c (Act a) (length numbers)

-- there is room for the decision, and these are the numbers of the token that it brings
abbrev pub IsReadyFor : TaskShape → CellsShape → Decision → List ℕ → Type 0
IsReadyFor t c (Join x p y) ns = Unit {0}
IsReadyFor t c (Bring x p a) ns = IsReadyToBring t c a ns
IsReadyFor t c (Before x y) ns = Unit {0}
