use Rattle.std.specs.Prelude.{ℕ, ◌+◌, ◌≤◌, List, length, All, Option, ⊤}
use Rattle.std.specs.List.{AllZip}
use Rattle.cpt_task.specs.Shape.{TaskShape}
use Rattle.cpt_sheet.specs.declared.data.Sheet.{Sheet}
use Rattle.cpt_sheet.specs.Formed.{IsFormed}
use Rattle.cpt_cert_form.specs.declared.forms.CertLine.{CertLine}
use Rattle.cpt_thin.specs.declared.fates.Fate.{Fate}
use Rattle.cpt_thin.specs.declared.fates.Fate.TheVariants.{Fixed, Kept, Dropped}
use Rattle.cpt_thin.specs.declared.fronts.Front.{Front}
use Rattle.cpt_thin.specs.declared.thinning.Begun.{Begun}
use Rattle.cpt_thin.specs.Fronts.{MayBeFrontOf}

-- the fate has not changed, or it is that of a step line that was kept and is dropped
abbrev pub Thins : Fate → Fate → Type 0
Thins Fixed Fixed = ⊤
Thins Kept Kept = ⊤
Thins Kept Dropped = ⊤
Thins Dropped Dropped = ⊤
Thins _ _ = ⊥

-- step lines that were kept are dropped, and nothing else has changed
pub record IsThinner (old new : List Fate) : Type 0 where
  pub each : AllZip Thins old new

-- a formed sheet, of no more tokens than lines were read and the two of each root
pub record IsBegun (t : TaskShape) (place : ℕ) (s : Sheet) : Type 0 where
  pub formed : IsFormed t s
  pub few : length s.tokens ≤ place + 2

-- nodes that begin at their sheets
abbrev pub AreBegun : TaskShape → List Begun → Type 0
AreBegun t nodes = All (λ n. IsBegun t n.place n.sheet) nodes

-- some lines are read, no more than so many
abbrev pub IsSomeFront : TaskShape → ℕ → Option Front → Type 0
IsSomeFront t most front = (read : List CertLine) × (length read ≤ most) × MayBeFrontOf t read front
