use Rattle.std.specs.Prelude.{◌≡◌, ℕ, ◌<◌, true, false, List, length, slice_get, unwrap_or}
use Rattle.cpt_task.specs.declared.span.Span.TheVariants.{At}
use Rattle.cpt_task.specs.Shape.{TaskShape}
use Rattle.cpt_tables.specs.declared.tables.Tables.{Tables}
use Rattle.cpt_tables.specs.Spans.{◌<ˢ◌, IsBelow}
use Rattle.cpt_sheet.specs.declared.data.Cand.{Cand}
use Rattle.cpt_sheet.specs.declared.data.Cand.TheVariants.{Tok, Out}
use Rattle.cpt_sheet.specs.declared.data.Need.{Need}
use Rattle.cpt_sheet.specs.declared.data.Sheet.{Sheet}
use Rattle.cpt_sheet.specs.declared.data.Step.{Step}
use Rattle.cpt_sheet.specs.declared.data.Change.{Change}
use Rattle.cpt_sheet.specs.declared.data.Change.TheVariants.{Raise, Lower, Take, Post}
use Rattle.cpt_sheet.specs.View.{lo, hi, has, has_need, cands, before, list_for, no_need, token_at}
use Rattle.cpt_sheet.specs.Formed.{IsFormed, IsPlaced}
use Rattle.cpt_sheet.specs.Below.{IsBelowSheet}
use Rattle.cpt_calculus.specs.Rules.{IsLegal, Moves, change_of, narrowed, is_of}
use Rattle.cpt_calculus.specs.Closing.{IsClosed}
use Rattle.cpt_calculus.specs.Places.{IsPlaceFor}

-- where a change lands: at the token or outside action whose interval it changes, at the token whose list it
-- changes, or at the first token of the order
abbrev pub subject_of : Change → Cand
subject_of (Raise c v) = c
subject_of (Lower c v) = c
subject_of (Take x p c) = Tok x
subject_of (Post x y) = Tok x

-- the step lands at the token or outside action
abbrev pub LandsAt : Sheet → Step → Cand → Type 0
LandsAt s step c = subject_of (change_of s step) ≡ c

-- the token or outside action is there
abbrev pub IsThere : TaskShape → Sheet → Cand → Type 0
IsThere t s (Tok x) = x < length s.tokens
IsThere t s (Out a) = a < length t.actions

-- no step of these rules is legal at the sheet and lands there
abbrev pub IsClosedAt : List ℕ → TaskShape → Tables → Sheet → Cand → Type 0
IsClosedAt rules t b s c = (step : Step) → is_of rules step ≡ true → IsLegal t b s step → LandsAt s step c → ⊥

-- The change is of something that is there, and narrows it: the interval is there and gets another end, where a first
-- moment keeps the limit of a token's; the candidate is listed for a precondition; or both tokens are there, and the
-- order between them does not stand yet.
abbrev pub CanMake : TaskShape → Sheet → Change → Type 0
CanMake t s (Raise c v) = IsThere t s c × (lo s c <ˢ v) × IsBelow 4000000000000000 v
CanMake t s (Lower c v) = IsThere t s c × (v <ˢ At (hi s c))
CanMake t s (Take x p c) = (has_need s x p ≡ true) × (has c (cands s x p) ≡ true)
CanMake t s (Post x y) = IsPlaced s x y × (before s x y ≡ false)

-- each legal step of a formed sheet lands where something is
abbrev pub LandsThere : Type 0
LandsThere = (t : TaskShape) (b : Tables) (s : Sheet) (step : Step) → IsFormed t s → IsLegal t b s step → IsThere t s (subject_of (change_of s step))

-- where no token and no outside action has a legal step the sheet is closed
abbrev pub ClosedWhereAll : Type 0
ClosedWhereAll =
    (rules : List ℕ) (t : TaskShape) (b : Tables) (s : Sheet) → IsFormed t s → ((c : Cand) → IsThere t s c → IsClosedAt rules t b s c) → IsClosed rules t b s

-- the change of a legal step of a formed sheet is of something that is there, and narrows it
abbrev pub StepsCanBeMade : Type 0
StepsCanBeMade = (t : TaskShape) (b : Tables) (s : Sheet) (step : Step) → IsFormed t s → IsLegal t b s step → CanMake t s (change_of s step)

-- after a step its change is read as before it
abbrev pub SameChange : Type 0
SameChange = (s : Sheet) (step : Step) → change_of (narrowed s step) step ≡ change_of s step

-- what narrows a sheet narrows each sheet above it
abbrev pub MovesAbove : Type 0
MovesAbove = (a b : Sheet) → IsBelowSheet a b → (ch : Change) → Moves b ch → Moves a ch

-- the place of the first precondition that is the atom, with its list
pub record IsNeedAt (ns : List Need) (p j : ℕ) : Type 0 where
  pub there : j < length ns
  pub place : IsPlaceFor ns p j
  pub list : (unwrap_or (slice_get ns j) no_need).cands ≡ list_for p ns

-- an atom that a token needs has its place among the preconditions
abbrev pub NeedsHavePlaces : Type 0
NeedsHavePlaces = (s : Sheet) (x p : ℕ) → has_need s x p ≡ true → (j : ℕ) × IsNeedAt (token_at s x).lists p j

-- and so has an atom for which a candidate is listed
abbrev pub ListedHavePlaces : Type 0
ListedHavePlaces = (s : Sheet) (x p : ℕ) (c : Cand) → has c (cands s x p) ≡ true → (j : ℕ) × IsNeedAt (token_at s x).lists p j
