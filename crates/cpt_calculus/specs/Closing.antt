use Rattle.std.specs.Prelude.{◌≡◌, ℕ, ◌⊎◌, true, List, [], ◌∷◌, ◌++◌, Option, Some, None}
use Rattle.cpt_task.specs.Shape.{TaskShape}
use Rattle.cpt_tables.specs.declared.tables.Tables.{Tables}
use Rattle.cpt_sheet.specs.declared.data.Sheet.{Sheet}
use Rattle.cpt_sheet.specs.declared.data.Step.{Step}
use Rattle.cpt_sheet.specs.declared.data.Decision.{Decision}
use Rattle.cpt_sheet.specs.Live.{IsLive, IsDead}
use Rattle.cpt_sheet.specs.Formed.{IsFormed}
use Rattle.cpt_sheet.specs.Below.{IsBelowSheet}
use Rattle.cpt_calculus.specs.Rules.{IsLegal, Moves, change_of, narrowed, is_of}
use Rattle.cpt_calculus.specs.Decisions.{Fits, applied}
use Rattle.cpt_calculus.specs.Root.{root_of}

-- the steps, each of these rules and legal where it stands, lead from the one sheet to the other
abbrev pub Leads : List ℕ → TaskShape → Tables → Sheet → List Step → Sheet → Type 0
Leads rules t b s [] u = u ≡ s
Leads rules t b s (step ∷ steps) u = (is_of rules step ≡ true) × IsLegal t b s step × Leads rules t b (narrowed s step) steps u

-- no step of these rules is legal at the sheet
abbrev pub IsClosed : List ℕ → TaskShape → Tables → Sheet → Type 0
IsClosed rules t b s = (step : Step) → is_of rules step ≡ true → IsLegal t b s step → ⊥

-- a formed and closed sheet below the given one that is not dead
pub record IsEnd (rules : List ℕ) (t : TaskShape) (b : Tables) (s u : Sheet) : Type 0 where
  pub formed : IsFormed t u
  pub below : IsBelowSheet s u
  pub live : IsLive u
  pub closed : IsClosed rules t b u

-- the formed and closed sheet below that is not dead and has every other such sheet below it
pub record IsClosure (rules : List ℕ) (t : TaskShape) (b : Tables) (s u : Sheet) : Type 0 where
  pub end : IsEnd rules t b s u
  pub greatest : (v : Sheet) → IsEnd rules t b s v → IsBelowSheet u v

-- there is no formed and closed sheet below that is not dead
abbrev pub HasNoClosure : List ℕ → TaskShape → Tables → Sheet → Type 0
HasNoClosure rules t b s = (v : Sheet) → IsEnd rules t b s v → ⊥

-- the closure of a sheet, where None stands for dead
abbrev pub ClosesTo : List ℕ → TaskShape → Tables → Sheet → Option Sheet → Type 0
ClosesTo rules t b s (Some u) = IsClosure rules t b s u
ClosesTo rules t b s None = HasNoClosure rules t b s

-- the sheet computed afresh from a bound and a list of decisions, where None stands for dead
pub data IsFresh (rules : List ℕ) (t : TaskShape) (tables : Tables) (b : ℕ) : List Decision → Option Sheet → Type 0 where
  at_root : (r : Option Sheet) → ClosesTo rules t tables (root_of t tables b) r → IsFresh rules t tables b [] r
  decided : (ds : List Decision) (s : Sheet) (d : Decision) (r : Option Sheet) →
      IsFresh rules t tables b ds (Some s) → Fits s d → ClosesTo rules t tables (applied t s d) r → IsFresh rules t tables b (ds ++ d ∷ []) r

-- what these rules allow at a sheet they allow, or it changes nothing, at every sheet below that is not dead
abbrev pub IsMonotone : List ℕ → Type 0
IsMonotone rules =
    (t : TaskShape) (b : Tables) (above below : Sheet) (step : Step) → is_of rules step ≡ true → IsBelowSheet above below → IsLive below →
    IsLegal t b above step → IsLegal t b below step ⊎ ¬ (Moves below (change_of below step))

-- every rule is monotone
abbrev pub MonotoneRules : Type 0
MonotoneRules = (rules : List ℕ) → IsMonotone rules

-- legal steps from a formed sheet that end in a closed one that is not dead end in the closure
abbrev pub ClosingSteps : Type 0
ClosingSteps =
    (rules : List ℕ) (t : TaskShape) (b : Tables) (s u : Sheet) (steps : List Step) → IsFormed t s → Leads rules t b s steps u →
    IsLive u → IsClosed rules t b u → ClosesTo rules t b s (Some u)

-- where legal steps from a sheet end in a dead one there is no closure
abbrev pub DyingSteps : Type 0
DyingSteps =
    (rules : List ℕ) (t : TaskShape) (b : Tables) (s u : Sheet) (steps : List Step) → Leads rules t b s steps u → IsDead u → ClosesTo rules t b s None

-- a sheet closes to one end: to one sheet, or to none
abbrev pub OneClosure : Type 0
OneClosure = (rules : List ℕ) (t : TaskShape) (b : Tables) (s : Sheet) (u v : Option Sheet) → ClosesTo rules t b s u → ClosesTo rules t b s v → u ≡ v

-- the sheet after a legal step of a formed one is formed
abbrev pub StaysFormed : Sheet → Step → Sheet → Type 0
StaysFormed s step u = (t : TaskShape) (b : Tables) → IsFormed t s → IsLegal t b s step → IsFormed t u
