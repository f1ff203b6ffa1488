use Rattle.std.specs.Prelude.{◌≡◌, ◌≢◌, ℕ, ◌⊎◌, true}
use Rattle.cpt_task.specs.Shape.{TaskShape}
use Rattle.cpt_tables.specs.declared.tables.Tables.{Tables}
use Rattle.cpt_sheet.specs.declared.data.Cand.TheVariants.{Tok}
use Rattle.cpt_sheet.specs.declared.data.Sheet.{Sheet}
use Rattle.cpt_sheet.specs.declared.data.Step.{Step}
use Rattle.cpt_sheet.specs.declared.data.Flaw.{Flaw}
use Rattle.cpt_sheet.specs.Live.{IsLive}
use Rattle.cpt_sheet.specs.Roles.{Clash}
use Rattle.cpt_sheet.specs.View.{kind_of, has_need, cands, before}
use Rattle.cpt_calculus.specs.Closing.{IsClosed}
use Rattle.cpt_calculus.specs.Flaws.{IsChosenBefore, IsFirstFlaw, HasNoFlaw}
use Rattle.cpt_calculus.specs.Rules.{IsLegal, IsThreatOf, IsToken, all_rules, is_of}

-- of two flaws one is chosen before the other, or they are one
abbrev pub ChoiceIsTotal : Type 0
ChoiceIsTotal = (s : Sheet) (f g : Flaw) → IsChosenBefore s f g ⊎ ((f ≡ g) ⊎ IsChosenBefore s g f)

-- no flaw is chosen before itself, and the order of choice is transitive
pub record ChoiceIsStrict (s : Sheet) : Type 0 where
  pub other : (f : Flaw) → IsChosenBefore s f f → ⊥
  pub trans : (f g h : Flaw) → IsChosenBefore s f g → IsChosenBefore s g h → IsChosenBefore s f h

-- the order of choice is a strict order of the flaws of any sheet
abbrev pub ChoiceIsOrder : Type 0
ChoiceIsOrder = (s : Sheet) → ChoiceIsStrict s

-- a sheet has one first flaw
abbrev pub OneFirstFlaw : Type 0
OneFirstFlaw = (t : TaskShape) (s : Sheet) (f g : Flaw) → IsFirstFlaw t s f → IsFirstFlaw t s g → f ≡ g

-- where a flaw stands and none is chosen before it, it is the first; a sheet without a flaw has no first one
abbrev pub NoFlawNoFirst : Type 0
NoFlawNoFirst = (t : TaskShape) (s : Sheet) (f : Flaw) → HasNoFlaw t s → IsFirstFlaw t s f → ⊥

-- Nothing is left to decide: each list is one token, who deletes what a token supplies comes before it or after the
-- consumer, and two action tokens that interfere are in order.
pub record IsDecided (t : TaskShape) (s : Sheet) : Type 0 where
  pub supplied : (x p : ℕ) → has_need s x p ≡ true → (y : ℕ) × IsToken (cands s x p) y
  pub safe : (x p d y : ℕ) → IsThreatOf t s x p d y → (before s d y ≡ true) ⊎ (before s x d ≡ true)
  pub apart : (x y : ℕ) → x ≢ y → Clash t (kind_of s (Tok x)) (kind_of s (Tok y)) → (before s x y ≡ true) ⊎ (before s y x ≡ true)

-- in a live sheet without a flaw nothing is left to decide
abbrev pub FlawlessIsDecided : Type 0
FlawlessIsDecided = (t : TaskShape) (s : Sheet) → IsLive s → HasNoFlaw t s → IsDecided t s

-- and where nothing is left to decide there is no flaw
abbrev pub DecidedIsFlawless : Type 0
DecidedIsFlawless = (t : TaskShape) (s : Sheet) → IsDecided t s → HasNoFlaw t s

-- each step is of one of the rules in use
abbrev pub EachStepInUse : Type 0
EachStepInUse = (step : Step) → is_of all_rules step ≡ true

-- so a sheet that is closed for the rules in use has no legal step
abbrev pub ClosedForAll : Type 0
ClosedForAll = (t : TaskShape) (b : Tables) (s : Sheet) (step : Step) → IsClosed all_rules t b s → IsLegal t b s step → ⊥
