use Rattle.std.specs.Prelude.{ℕ, List, [], ◌∷◌}
use Rattle.cpt_task.specs.Shape.{TaskShape}
use Rattle.cpt_tables.specs.declared.tables.Tables.{Tables}
use Rattle.cpt_sheet.specs.declared.data.Cand.{Cand}
use Rattle.cpt_sheet.specs.declared.data.Sheet.{Sheet}
use Rattle.cpt_calculus.specs.Rules.{IsStep8}
use Rattle.cpt_proposal.specs.Gains.{HasStep9After, HasStep9Ahead}

-- the rules on threats
abbrev pub threat_rules : List ℕ
threat_rules = 8 ∷ 9 ∷ []

-- rule 8 drops no candidate of x for p because of d
pub record SparesAll (t : TaskShape) (b : Tables) (s : Sheet) (x p d : ℕ) : Type 0 where
  pub none : (c : Cand) → IsStep8 t b s x p c d → ⊥

-- the rules 8 and 9 have no step at x for p because of d
pub record IsUnharmedBy (t : TaskShape) (b : Tables) (s : Sheet) (x p d : ℕ) : Type 0 where
  pub kept : SparesAll t b s x p d
  pub after : HasStep9After t b s x p d → ⊥

-- the same because of any token
pub record IsUnharmed (t : TaskShape) (b : Tables) (s : Sheet) (x p : ℕ) : Type 0 where
  pub from : (d : ℕ) → IsUnharmedBy t b s x p d

-- rule 9 posts no order of d ahead of who supplies p
pub record IsNotAheadOf (t : TaskShape) (b : Tables) (s : Sheet) (d p : ℕ) : Type 0 where
  pub none : (x : ℕ) → HasStep9Ahead t b s x p d → ⊥
