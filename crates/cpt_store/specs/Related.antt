use Rattle.std.specs.Prelude.{◌≡◌, ℕ, true}
use Rattle.cpt_task.specs.Shape.{TaskShape}
use Rattle.cpt_sheet.specs.declared.data.Cand.{Cand}
use Rattle.cpt_sheet.specs.declared.data.Kind.{Kind}
use Rattle.cpt_sheet.specs.declared.data.Sheet.{Sheet}
use Rattle.cpt_sheet.specs.Roles.{Adds, Deletes}
use Rattle.cpt_sheet.specs.View.{cands, has}

-- c is no candidate of x for p
pub record IsNotHeld (s : Sheet) (c : Cand) (x p : ℕ) : Type 0 where
  pub none : has c (cands s x p) ≡ true → ⊥

-- it does not delete p
pub record IsNotDeleted (t : TaskShape) (k : Kind) (p : ℕ) : Type 0 where
  pub none : Deletes t k p → ⊥

-- it does not add p
pub record IsNotAdded (t : TaskShape) (k : Kind) (p : ℕ) : Type 0 where
  pub none : Adds t k p → ⊥
