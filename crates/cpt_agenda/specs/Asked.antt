use Rattle.std.specs.Prelude.{◌≡◌, ℕ, ◌⊎◌, ◌<◌, ◌≤◌, true, List, length, Option, Some, None, Contains, slice_index_or}
use Rattle.cpt_task.specs.Shape.{TaskShape}
use Rattle.cpt_task.specs.declared.span.Span.TheVariants.{Never}
use Rattle.cpt_tables.specs.declared.tables.Tables.{Tables}
use Rattle.cpt_sheet.specs.declared.data.Cand.{Cand}
use Rattle.cpt_sheet.specs.declared.data.Cand.TheVariants.{Tok, Out}
use Rattle.cpt_sheet.specs.declared.data.Change.{Change}
use Rattle.cpt_sheet.specs.declared.data.Change.TheVariants.{Raise, Lower, Take, Post}
use Rattle.cpt_sheet.specs.declared.data.Decision.{Decision}
use Rattle.cpt_sheet.specs.declared.data.Decision.TheVariants.{Join, Bring, Before}
use Rattle.cpt_sheet.specs.declared.data.Kind.{Kind}
use Rattle.cpt_sheet.specs.declared.data.Kind.TheVariants.{Act}
use Rattle.cpt_sheet.specs.declared.data.Sheet.{Sheet}
use Rattle.cpt_sheet.specs.declared.data.Step.{Step}
use Rattle.cpt_sheet.specs.Live.{IsLive}
use Rattle.cpt_sheet.specs.Roles.{Clash, Deletes, adds_of, deletes_of, needs_of}
use Rattle.cpt_sheet.specs.View.{has, has_need}
use Rattle.cpt_calculus.specs.Rules.{change_of}
use Rattle.cpt_steps.specs.Landing.{IsThere}
use Rattle.cpt_waking.specs.Waking.{CanWake, PostedWakes, StaysClosed, TakenWakes}
use Rattle.cpt_index.specs.Lists.{IsOffer}
use Rattle.cpt_store.specs.Stores.{IsLent, StoreShape}
use Rattle.cpt_agenda.specs.declared.asked.Use.{Use}
use Rattle.cpt_agenda.specs.declared.asked.Use.TheVariants.{Needed, Deleted, Added}
use Rattle.cpt_agenda.specs.declared.woken.Spot.{Spot}
use Rattle.cpt_agenda.specs.declared.woken.Spot.TheVariants.{Raised, Lowered, Taken, Posted}
use Rattle.cpt_agenda.specs.Agendas.{AgendaShape, Keeps}
use Rattle.cpt_agenda.specs.Users.{IsDropper, IsNeeder}

-- those of the list are there
pub record AreThere (t : TaskShape) (s : Sheet) (cs : List Cand) : Type 0 where
  pub there : (c : Cand) → has c cs ≡ true → IsThere t s c

-- subjects of the store may be asked, and the agenda has a mark for each
pub record CanAsk (t : TaskShape) (b : Tables) (h : StoreShape) (a : AgendaShape) : Type 0 where
  pub lent : IsLent t b h
  pub live : IsLive h.sheet
  pub tokens : length h.sheet.tokens ≤ a.tokens
  pub acts : length t.actions ≤ a.acts

-- the subject need not be asked: after a step it stays closed, and after a decision all have to be asked
abbrev pub IsLeft : List ℕ → TaskShape → Tables → Sheet → Option Step → Cand → Type 0
IsLeft rules t b s (Some step) c = StaysClosed rules t b s step c
IsLeft rules t b s None c = ⊥

-- the subject waits, or need not be asked
abbrev pub IsAsked : List ℕ → TaskShape → Tables → Sheet → Option Step → AgendaShape → Cand → Type 0
IsAsked rules t b s cause a c = (has c a.waiting ≡ true) ⊎ IsLeft rules t b s cause c

-- the subject is asked, and no one else is put
pub record IsAskedOne (rules : List ℕ) (t : TaskShape) (b : Tables) (s : Sheet) (cause : Option Step) (c : Cand) (old new : AgendaShape) : Type 0 where
  pub keeps : Keeps old new
  pub within : length old.waiting ≤ old.room → length new.waiting ≤ new.room
  pub only : (d : Cand) → has d new.waiting ≡ true → (d ≡ c) ⊎ (has d old.waiting ≡ true)
  pub asked : IsAsked rules t b s cause new c

-- those of whom P holds are asked, and no one is put who is not there
pub record AreAsked (rules : List ℕ) (t : TaskShape) (b : Tables) (s : Sheet) (cause : Option Step) (P : Cand → Type 0) (old new : AgendaShape) : Type 0 where
  pub keeps : Keeps old new
  pub within : length old.waiting ≤ old.room → length new.waiting ≤ new.room
  pub only : (d : Cand) → has d new.waiting ≡ true → IsThere t s d ⊎ (has d old.waiting ≡ true)
  pub asked : (d : Cand) → P d → IsAsked rules t b s cause new d

-- after the step whoever it can wake waits, or stays closed
pub record IsWoken (rules : List ℕ) (t : TaskShape) (b : Tables) (s : Sheet) (step : Step) (old new : AgendaShape) : Type 0 where
  pub keeps : Keeps old new
  pub within : length old.waiting ≤ old.room → length new.waiting ≤ new.room
  pub there : AreThere t s old.waiting → AreThere t s new.waiting
  pub woken : (c : Cand) → IsThere t s c → CanWake t s (change_of s step) c → IsAsked rules t b s (Some step) new c

-- the element stands before a place of the list
pub record IsFront {A : Type 0} (xs : List A) (n : ℕ) (x : A) : Type 0 where
  pub place : ℕ
  pub before : place < n
  pub within : place < length xs
  pub here : slice_index_or xs place x ≡ x

-- a token before a place of the list
abbrev pub IsFrontToken : List ℕ → ℕ → Cand → Type 0
IsFrontToken xs n (Tok x) = IsFront xs n x
IsFrontToken xs n (Out a) = ⊥

-- for an atom before a place of the list it holds
pub record ForFront (P : ℕ → Cand → Type 0) (ps : List ℕ) (n : ℕ) (c : Cand) : Type 0 where
  pub atom : ℕ
  pub listed : IsFront ps n atom
  pub holds : P atom c

-- a token below n
abbrev pub IsTokenBelow : ℕ → Cand → Type 0
IsTokenBelow n (Tok x) = x < n
IsTokenBelow n (Out a) = ⊥

-- an outside action below n
abbrev pub IsActionBelow : ℕ → Cand → Type 0
IsActionBelow n (Tok x) = ⊥
IsActionBelow n (Out a) = a < n

-- a token of the list
abbrev pub IsListed : List ℕ → Cand → Type 0
IsListed xs (Tok x) = Contains xs x
IsListed xs (Out a) = ⊥

-- who uses the atom so
abbrev pub IsUser : TaskShape → Sheet → Use → ℕ → Cand → Type 0
IsUser t s Needed p c = IsNeeder t p c
IsUser t s Deleted p c = IsDropper t p c
IsUser t s Added p c = IsOffer t s p c

-- a token that needs the atom
abbrev pub IsTaker : Sheet → ℕ → Cand → Type 0
IsTaker s p (Tok x) = has_need s x p ≡ true
IsTaker s p (Out a) = ⊥

-- for one of these atoms it holds
pub record ForOne (P : ℕ → Cand → Type 0) (ps : List ℕ) (c : Cand) : Type 0 where
  pub atom : ℕ
  pub listed : Contains ps atom
  pub holds : P atom c

-- who uses one of the atoms so
abbrev pub IsUserOf : TaskShape → Sheet → Use → List ℕ → Cand → Type 0
IsUserOf t s how ps c = ForOne (IsUser t s how) ps c

-- a token that needs one of the atoms
abbrev pub IsTakerOf : Sheet → List ℕ → Cand → Type 0
IsTakerOf s ps c = ForOne (IsTaker s) ps c

-- who deletes what it needs or adds, or needs or adds what it deletes
pub data IsAround (t : TaskShape) (s : Sheet) (k : Kind) (c : Cand) : Type 0 where
  deletes_need : IsUserOf t s Deleted (needs_of t k) c → IsAround t s k c
  deletes_add : IsUserOf t s Deleted (adds_of t k) c → IsAround t s k c
  needs_deleted : IsUserOf t s Needed (deletes_of t k) c → IsAround t s k c
  adds_deleted : IsUserOf t s Added (deletes_of t k) c → IsAround t s k c

-- what a change changes
abbrev pub spot_of : Change → Spot
spot_of (Raise c v) = Raised c
spot_of (Lower c v) = Lowered c
spot_of (Take x p c) = Taken x p
spot_of (Post x y) = Posted

-- who is there and can be woken by the change
abbrev pub WokenBy : TaskShape → Sheet → Change → Cand → Type 0
WokenBy t s ch c = IsThere t s c × CanWake t s ch c

-- the same where a candidate left a list
abbrev pub WokenByTake : TaskShape → Sheet → ℕ → ℕ → Cand → Type 0
WokenByTake t s x p c = IsThere t s c × TakenWakes t s x p c

-- whom a change there can wake, among others
abbrev pub WokenFrom : TaskShape → Sheet → Spot → Cand → Type 0
WokenFrom t s (Raised c) d = WokenBy t s (Raise c Never) d
WokenFrom t s (Lowered c) d = WokenBy t s (Lower c Never) d
WokenFrom t s (Taken x p) d = WokenByTake t s x p d
WokenFrom t s Posted d = IsTokenBelow (length s.tokens) d

-- the tokens that a join or an order names are there
abbrev pub NamesTokens : Sheet → Decision → Type 0
NamesTokens s (Join x p y) = x < length s.tokens
NamesTokens s (Before x y) = (x < length s.tokens) × (y < length s.tokens)
NamesTokens s (Bring x p a) = Unit {0}

-- whom a join can give a legal step
abbrev pub StirredByJoin : TaskShape → Sheet → ℕ → ℕ → Cand → Type 0
StirredByJoin t s x p c = IsThere t s c × ((Tok x ≡ c) ⊎ TakenWakes t s x p c)

-- whom an order can give a legal step
abbrev pub StirredByOrder : TaskShape → Sheet → ℕ → ℕ → Cand → Type 0
StirredByOrder t s x y (Tok z) = (x ≡ z) ⊎ PostedWakes s x y z
StirredByOrder t s x y (Out a) = ⊥

-- whom a new token of a for p can give a legal step
abbrev pub StirredByBring : TaskShape → Sheet → ℕ → ℕ → Cand → Type 0
StirredByBring t s p a (Tok z) = z < length s.tokens
StirredByBring t s p a (Out o) = (o < length t.actions) × (Clash t (Act a) (Act o) ⊎ Deletes t (Act o) p)

-- whom a decision can give a legal step, where the sheet before it was closed
abbrev pub StirredBy : TaskShape → Sheet → Decision → Cand → Type 0
StirredBy t s (Join x p y) c = StirredByJoin t s x p c
StirredBy t s (Before x y) c = StirredByOrder t s x y c
StirredBy t s (Bring x p a) c = StirredByBring t s p a c
