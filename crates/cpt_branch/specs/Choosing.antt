use Rattle.std.specs.Prelude.{◌≡◌, ℕ, ◌<◌, ◌⊎◌, List, Option, Some, None, Contains}
use Rattle.cpt_task.specs.Shape.{TaskShape}
use Rattle.cpt_sheet.specs.declared.data.Sheet.{Sheet}
use Rattle.cpt_sheet.specs.declared.data.Flaw.{Flaw}
use Rattle.cpt_sheet.specs.declared.data.Flaw.TheVariants.{Threat, OpenNeed, Clash}
use Rattle.cpt_calculus.specs.Flaws.{IsFlaw, IsThreat, IsClash, IsChosenBefore, IsFirstFlaw, HasNoFlaw}

-- which flaws are meant
abbrev pub Flaws : Type 1
Flaws = Flaw → Type 0

-- the first of these flaws in the order of choice: none where there is none
abbrev pub IsFirstOf : Sheet → Flaws → Option Flaw → Type 0
IsFirstOf s P None = (f : Flaw) → P f → ⊥
IsFirstOf s P (Some g) = P g × ((f : Flaw) → P f → IsChosenBefore s f g → ⊥)

-- the one of two that is chosen before the other, or else the former
abbrev pub IsEarlier : Sheet → Option Flaw → Option Flaw → Option Flaw → Type 0
IsEarlier s None b r = r ≡ b
IsEarlier s (Some f) None r = r ≡ Some f
IsEarlier s (Some f) (Some g) r = ((r ≡ Some f) × (IsChosenBefore s g f → ⊥)) ⊎ ((r ≡ Some g) × IsChosenBefore s g f)

-- the flaws of those in the list, and of the numbers below n
abbrev pub AreAmong : {A : Type 0} → (A → Flaws) → List A → Flaws
AreAmong {A} Q xs f = (a : A) × Contains xs a × Q a f

-- the flaws of a family with numbers below n
abbrev pub AreBelow : (ℕ → Flaws) → ℕ → Flaws
AreBelow Q n f = (x : ℕ) × (x < n) × Q x f

-- the threat of d to what x has for p
abbrev pub IsThreatBy : TaskShape → Sheet → ℕ → ℕ → ℕ → Flaws
IsThreatBy t s x p d f = (f ≡ Threat x p d) × IsThreat t s x p d

-- the flaw is about the list of x for p
abbrev pub IsAbout : ℕ → ℕ → Flaws
IsAbout x p (Threat y q d) = (y ≡ x) × (q ≡ p)
IsAbout x p (OpenNeed y q) = (y ≡ x) × (q ≡ p)
IsAbout x p (Clash y z) = ⊥

-- the flaws of a list, and of a token's lists
abbrev pub IsOfList : TaskShape → Sheet → ℕ → ℕ → Flaws
IsOfList t s x p f = IsAbout x p f × IsFlaw t s f

-- the flaws in the lists of a token
abbrev pub IsOfToken : TaskShape → Sheet → ℕ → Flaws
IsOfToken t s x f = (p : ℕ) × IsOfList t s x p f

-- the clash of x with y, and the clashes of x with later tokens
abbrev pub IsClashWith : TaskShape → Sheet → ℕ → ℕ → Flaws
IsClashWith t s x y f = (f ≡ Clash x y) × IsClash t s x y

-- the clashes of a token
abbrev pub IsClashOf : TaskShape → Sheet → ℕ → Flaws
IsClashOf t s x f = (y : ℕ) × IsClashWith t s x y f

-- the answer of the choice: the first flaw, or none where there is none
abbrev pub IsChoice : TaskShape → Sheet → Option Flaw → Type 0
IsChoice t s None = HasNoFlaw t s
IsChoice t s (Some f) = IsFirstFlaw t s f
