-- decisions keep a sheet formed
use Rattle.std.proofs.Common.{◌≡◌, [], ◌∷◌, true, sym}
use Rattle.cpt_task.specs.Shape.{TaskShape}
use Rattle.cpt_sheet.specs.declared.data.Cand.{Cand}
use Rattle.cpt_sheet.specs.declared.data.Decision.{Decision}
use Rattle.cpt_sheet.specs.declared.data.Sheet.{Sheet}
use Rattle.cpt_sheet.specs.View.{has}
use Rattle.cpt_sheet.specs.Formed.{IsFormed}
use Rattle.cpt_calculus.specs.Decisions.{Fits, applied}
use Rattle.cpt_calculus.proofs.Adders as adders
use Rattle.cpt_calculus.proofs.ApplyFormed as calculus
pub use Rattle.cpt_calculus.proofs.Reading.{cand_there}

pub applied_formed : (t : TaskShape) (s : Sheet) (d : Decision) → IsFormed t s → Fits s d → IsFormed t (applied t s d)
applied_formed t s d f fits = calculus.applied_formed t s d fits f

pub has_one : (c d : Cand) → has c (d ∷ []) ≡ true → c ≡ d
has_one c d h = sym (adders.has_one c d h)
