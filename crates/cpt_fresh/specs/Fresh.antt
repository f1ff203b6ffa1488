use Rattle.std.specs.Prelude.{◌≡◌, ℕ, ◌≤◌, List, [], ◌∷◌, ◌++◌, Option, Some, None}
use Rattle.cpt_task.specs.Shape.{TaskShape, InBounds}
use Rattle.cpt_tables.specs.declared.tables.Tables.{Tables}
use Rattle.cpt_sheet.specs.declared.data.Sheet.{Sheet}
use Rattle.cpt_sheet.specs.declared.data.Step.{Step}
use Rattle.cpt_sheet.specs.declared.data.Decision.{Decision}
use Rattle.cpt_sheet.specs.Gaps.{FitsTask}
use Rattle.cpt_sheet.specs.Live.{IsLive, IsDead}
use Rattle.cpt_calculus.specs.Closing.{ClosesTo, IsClosed, IsFresh, Leads}
use Rattle.cpt_calculus.specs.Decisions.{Fits, applied}
use Rattle.cpt_calculus.specs.Root.{root_of}

-- where the steps of a list of decisions begin: at the root of the bound, or at the sheet after the last decision
pub data IsBeginning (rules : List ℕ) (t : TaskShape) (tables : Tables) (b : ℕ) (ds : List Decision) (s : Sheet) : Type 0 where
  here : ds ≡ [] → s ≡ root_of t tables b → IsBeginning rules t tables b ds s
  after : (es : List Decision) (d : Decision) (u : Sheet) → ds ≡ es ++ d ∷ [] → IsFresh rules t tables b es (Some u) → Fits u d →
      s ≡ applied t u d → IsBeginning rules t tables b ds s

-- the decision fits the fresh sheet of the earlier ones, and the sheet after it closes to the result
pub record IsDecidedFrom (rules : List ℕ) (t : TaskShape) (tables : Tables) (b : ℕ) (ds : List Decision) (d : Decision) (r : Option Sheet) (s : Sheet) : Type 0 where
  pub fresh : IsFresh rules t tables b ds (Some s)
  pub fits : Fits s d
  pub closes : ClosesTo rules t tables (applied t s d) r

-- a live and closed sheet is the fresh one, and where a sheet is dead so is the fresh one
pub record TellsFresh (rules : List ℕ) (t : TaskShape) (tables : Tables) (b : ℕ) (ds : List Decision) (u : Sheet) : Type 0 where
  pub closed : IsLive u → IsClosed rules t tables u → IsFresh rules t tables b ds (Some u)
  pub dead : IsDead u → IsFresh rules t tables b ds None

-- a list of decisions has one fresh sheet, or none
abbrev pub OneFresh : Type 0
OneFresh =
    (rules : List ℕ) (t : TaskShape) (tables : Tables) (b : ℕ) (ds : List Decision) (r q : Option Sheet) →
    IsFresh rules t tables b ds r → IsFresh rules t tables b ds q → r ≡ q

-- the fresh sheet of no decision is the closure of the root
abbrev pub FreshAtRoot : Type 0
FreshAtRoot = (rules : List ℕ) (t : TaskShape) (tables : Tables) (b : ℕ) (r : Option Sheet) → IsFresh rules t tables b [] r → ClosesTo rules t tables (root_of t tables b) r

-- A further decision fits the fresh sheet of the earlier ones, which is there, and the fresh sheet after it is the closure
-- of that decision applied to it.
abbrev pub FreshAfter : Type 0
FreshAfter =
    (rules : List ℕ) (t : TaskShape) (tables : Tables) (b : ℕ) (ds : List Decision) (d : Decision) (r : Option Sheet) →
    IsFresh rules t tables b (ds ++ d ∷ []) r → (s : Sheet) × IsDecidedFrom rules t tables b ds d r s

-- the steps of a list of decisions begin at one sheet
abbrev pub OneBeginning : Type 0
OneBeginning =
    (rules : List ℕ) (t : TaskShape) (tables : Tables) (b : ℕ) (ds : List Decision) (s u : Sheet) →
    IsBeginning rules t tables b ds s → IsBeginning rules t tables b ds u → s ≡ u

-- what the beginning closes to is the fresh sheet
abbrev pub BeginningClosesFresh : Type 0
BeginningClosesFresh =
    (rules : List ℕ) (t : TaskShape) (tables : Tables) (b : ℕ) (ds : List Decision) (s : Sheet) (r : Option Sheet) →
    IsBeginning rules t tables b ds s → ClosesTo rules t tables s r → IsFresh rules t tables b ds r

-- Whoever reaches a closed or a dead sheet by legal steps from where those of the decisions begin has the fresh one.
abbrev pub ReachesFresh : Type 0
ReachesFresh =
    (rules : List ℕ) (t : TaskShape) (tables : Tables) (b : ℕ) (ds : List Decision) (s u : Sheet) (steps : List Step) →
    InBounds t → FitsTask t tables → b ≤ 1000000 → IsBeginning rules t tables b ds s → Leads rules t tables s steps u → TellsFresh rules t tables b ds u
