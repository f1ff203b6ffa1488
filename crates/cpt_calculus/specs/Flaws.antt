use Rattle.std.specs.Prelude.{◌≡◌, ◌≢◌, ℕ, ◌<◌, ◌⊎◌, false, List, [], ◌∷◌, length, map}
use Rattle.cpt_task.specs.Shape.{TaskShape}
use Rattle.cpt_sheet.specs.declared.data.Cand.{Cand}
use Rattle.cpt_sheet.specs.declared.data.Cand.TheVariants.{Tok, Out}
use Rattle.cpt_sheet.specs.declared.data.Sheet.{Sheet}
use Rattle.cpt_sheet.specs.declared.data.Decision.{Decision}
use Rattle.cpt_sheet.specs.declared.data.Decision.TheVariants.{Join, Bring, Before}
use Rattle.cpt_sheet.specs.declared.data.Flaw.{Flaw}
use Rattle.cpt_sheet.specs.declared.data.Flaw.TheVariants.{Threat, OpenNeed, Clash}
use Rattle.cpt_sheet.specs.Roles.{Clash as Interfere}
use Rattle.cpt_sheet.specs.View.{kind_of, cands, before}
use Rattle.cpt_calculus.specs.Rules.{IsToken, IsThreatOf, only}

-- d deletes what y alone adds for x, and neither d before y nor x before d stands
abbrev pub IsThreat : TaskShape → Sheet → ℕ → ℕ → ℕ → Type 0
IsThreat t s x p d = (y : ℕ) × IsThreatOf t s x p d y × (before s d y ≡ false) × (before s x d ≡ false)

-- the list is neither empty nor one token
abbrev pub IsOpenNeed : Sheet → ℕ → ℕ → Type 0
IsOpenNeed s x p = (cands s x p ≢ []) × ((y : ℕ) → IsToken (cands s x p) y → ⊥)

-- two action tokens that interfere, with no order between them
pub record IsClash (t : TaskShape) (s : Sheet) (x y : ℕ) : Type 0 where
  pub ordered : x < y
  pub interfere : Interfere t (kind_of s (Tok x)) (kind_of s (Tok y))
  pub not_first : before s x y ≡ false
  pub not_last : before s y x ≡ false

-- the flaw stands in the sheet
abbrev pub IsFlaw : TaskShape → Sheet → Flaw → Type 0
IsFlaw t s (Threat x p d) = IsThreat t s x p d
IsFlaw t s (OpenNeed x p) = IsOpenNeed s x p
IsFlaw t s (Clash x y) = IsClash t s x y

-- the decision for a candidate: the token joins, or a token of the outside action is brought
abbrev pub choice : ℕ → ℕ → Cand → Decision
choice x p (Tok y) = Join x p y
choice x p (Out a) = Bring x p a

-- the children of a flaw, in order
abbrev pub children : Sheet → Flaw → List Decision
children s (Threat x p d) = Before d (only (cands s x p)) ∷ Before x d ∷ []
children s (OpenNeed x p) = map (choice x p) (cands s x p)
children s (Clash x y) = Before x y ∷ Before y x ∷ []

-- a pair of numbers before another
abbrev pub IsPairBefore : ℕ → ℕ → ℕ → ℕ → Type 0
IsPairBefore x p y q = (x < y) ⊎ ((x ≡ y) × (p < q))

-- the order of choice: threats by their numbers, then open needs by how many candidates they have and then by their
-- numbers, then clashes by their numbers
abbrev pub IsChosenBefore : Sheet → Flaw → Flaw → Type 0
IsChosenBefore s (Threat x p d) (Threat y q e) = IsPairBefore x p y q ⊎ ((x ≡ y) × (p ≡ q) × (d < e))
IsChosenBefore s (Threat x p d) (OpenNeed y q) = Unit {0}
IsChosenBefore s (Threat x p d) (Clash y z) = Unit {0}
IsChosenBefore s (OpenNeed x p) (Threat y q e) = ⊥
IsChosenBefore s (OpenNeed x p) (OpenNeed y q) =
    (length (cands s x p) < length (cands s y q)) ⊎ ((length (cands s x p) ≡ length (cands s y q)) × IsPairBefore x p y q)
IsChosenBefore s (OpenNeed x p) (Clash y z) = Unit {0}
IsChosenBefore s (Clash x y) (Threat z q e) = ⊥
IsChosenBefore s (Clash x y) (OpenNeed z q) = ⊥
IsChosenBefore s (Clash x y) (Clash z w) = IsPairBefore x y z w

-- the flaw stands, and none before it in the order of choice does
pub record IsFirstFlaw (t : TaskShape) (s : Sheet) (f : Flaw) : Type 0 where
  pub stands : IsFlaw t s f
  pub first : (g : Flaw) → IsFlaw t s g → IsChosenBefore s g f → ⊥

-- no flaw stands
abbrev pub HasNoFlaw : TaskShape → Sheet → Type 0
HasNoFlaw t s = (f : Flaw) → IsFlaw t s f → ⊥
