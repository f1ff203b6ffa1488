use Rattle.std.specs.Prelude.{◌≡◌, ◌≢◌, ℕ, ◌⊎◌, Bool, true, List, ◌++◌, Contains}
use Rattle.cpt_task.specs.Shape.{TaskShape}
use Rattle.cpt_tables.specs.declared.tables.Tables.{Tables}
use Rattle.cpt_tables.specs.Admissible.{nth_action}
use Rattle.cpt_sheet.specs.declared.data.Cand.{Cand}
use Rattle.cpt_sheet.specs.declared.data.Cand.TheVariants.{Tok, Out}
use Rattle.cpt_sheet.specs.declared.data.Kind.{Kind}
use Rattle.cpt_sheet.specs.declared.data.Kind.TheVariants.{Act}
use Rattle.cpt_sheet.specs.declared.data.Sheet.{Sheet}
use Rattle.cpt_sheet.specs.declared.data.Step.{Step}
use Rattle.cpt_sheet.specs.declared.data.Decision.{Decision}
use Rattle.cpt_sheet.specs.declared.data.Decision.TheVariants.{Join, Bring, Before}
use Rattle.cpt_sheet.specs.declared.data.Change.{Change}
use Rattle.cpt_sheet.specs.declared.data.Change.TheVariants.{Raise, Lower, Take, Post}
use Rattle.cpt_sheet.specs.Roles.{Adds, Deletes, Clash}
use Rattle.cpt_sheet.specs.Live.{IsLive, IsShut}
use Rattle.cpt_sheet.specs.View.{kind_of, cands, has, has_need, before, span_of}
use Rattle.cpt_sheet.specs.Formed.{IsFormed}
use Rattle.cpt_calculus.specs.Rules.{IsLegal, IsToken, only, change_of, narrowed, is_of}
use Rattle.cpt_calculus.specs.Decisions.{Fits, applied}
use Rattle.cpt_steps.specs.Landing.{subject_of, LandsAt, IsThere, IsClosedAt}
use Rattle.cpt_waking.specs.Touching.{Touches}

-- a step of these rules, legal after the change, lands there, and the change touches something of its condition
pub record IsWokenBy (rules : List ℕ) (t : TaskShape) (b : Tables) (u : Sheet) (ch : Change) (c : Cand) (step : Step) : Type 0 where
  pub rule : is_of rules step ≡ true
  pub legal : IsLegal t b u step
  pub lands : LandsAt u step c
  pub touched : Touches t u ch step

-- there is no such step
abbrev pub IsAsleep : List ℕ → TaskShape → Tables → Sheet → Change → Cand → Type 0
IsAsleep rules t b u ch c = (step : Step) → IsWokenBy rules t b u ch c step → ⊥

-- Whatever formed sheet the step led from: where it had no legal step of these rules, the sheet after the step has none.
abbrev pub StaysClosed : List ℕ → TaskShape → Tables → Sheet → Step → Cand → Type 0
StaysClosed rules t b u step c = (s : Sheet) → IsFormed t s → IsLegal t b s step → u ≡ narrowed s step → IsClosedAt rules t b s c → IsClosedAt rules t b u c

-- what a step does not wake stays closed
abbrev pub AsleepStaysClosed : Type 0
AsleepStaysClosed =
    (rules : List ℕ) (t : TaskShape) (b : Tables) (u : Sheet) (step : Step) (c : Cand) → subject_of (change_of u step) ≢ c →
    IsAsleep rules t b u (change_of u step) c → StaysClosed rules t b u step c

-- what stays closed for some rules and for others stays closed for all of them
abbrev pub BothStayClosed : Type 0
BothStayClosed =
    (first second : List ℕ) (t : TaskShape) (b : Tables) (u : Sheet) (step : Step) (c : Cand) →
    StaysClosed first t b u step c → StaysClosed second t b u step c → StaysClosed (first ++ second) t b u step c

-- each that is there is on the agenda or has no legal step
abbrev pub IsSettled : List ℕ → TaskShape → Tables → Sheet → (Cand → Bool) → Type 0
IsSettled rules t b s agenda = (c : Cand) → IsThere t s c → (agenda c ≡ true) ⊎ IsClosedAt rules t b s c

-- After a legal step all is settled again, where whoever is there and is on the agenda no longer stays closed.
abbrev pub StepSettles : Type 0
StepSettles =
    (rules : List ℕ) (t : TaskShape) (b : Tables) (s : Sheet) (step : Step) (old new : Cand → Bool) → IsFormed t s → IsLegal t b s step →
    IsSettled rules t b s old → ((c : Cand) → old c ≡ true → new c ≡ true) →
    ((c : Cand) → IsThere t (narrowed s step) c → (new c ≡ true) ⊎ StaysClosed rules t b (narrowed s step) step c) → IsSettled rules t b (narrowed s step) new

-- a candidate for some precondition
abbrev pub Feeds : Sheet → Cand → ℕ → Type 0
Feeds s c x = (p : ℕ) × (has_need s x p ≡ true) × (has c (cands s x p) ≡ true)

-- it deletes what the token needs
abbrev pub Harms : TaskShape → Sheet → Cand → ℕ → Type 0
Harms t s d x = (p : ℕ) × (has_need s x p ≡ true) × Deletes t (kind_of s d) p

-- it adds what the action needs
abbrev pub Helps : TaskShape → Kind → ℕ → Type 0
Helps t k a = (p : ℕ) × Contains (nth_action t a).pre p × Adds t k p

-- it adds what the action deletes
abbrev pub Loses : TaskShape → Kind → ℕ → Type 0
Loses t k a = (p : ℕ) × Adds t k p × Deletes t (Act a) p

-- how a token can wake a token when its lo is raised
pub data RaisedWakes (t : TaskShape) (u : Sheet) (z y : ℕ) : Type 0 where
  ahead : before u z y ≡ true → RaisedWakes t u z y
  clash : Clash t (kind_of u (Tok z)) (kind_of u (Tok y)) → RaisedWakes t u z y
  feeds : Feeds u (Tok z) y → RaisedWakes t u z y
  harms : Harms t u (Tok z) y → RaisedWakes t u z y
  harmed : Harms t u (Tok y) z → RaisedWakes t u z y

-- how a token can wake an outside action when its lo is raised
pub data RaisedWakesOut (t : TaskShape) (u : Sheet) (z a : ℕ) : Type 0 where
  helps : Helps t (kind_of u (Tok z)) a → RaisedWakesOut t u z a
  clash : Clash t (kind_of u (Tok z)) (Act a) → RaisedWakesOut t u z a
  harmed : Harms t u (Out a) z → RaisedWakesOut t u z a

-- how a token can wake a token when its hi is lowered
pub data LoweredWakes (t : TaskShape) (u : Sheet) (z y : ℕ) : Type 0 where
  behind : before u y z ≡ true → LoweredWakes t u z y
  feeds : Feeds u (Tok z) y → LoweredWakes t u z y
  harms : Harms t u (Tok z) y → LoweredWakes t u z y

-- how a token can wake an outside action when its hi is lowered
pub data LoweredWakesOut (t : TaskShape) (u : Sheet) (z a : ℕ) : Type 0 where
  clash : Clash t (kind_of u (Tok z)) (Act a) → LoweredWakesOut t u z a
  loses : Loses t (kind_of u (Tok z)) a → LoweredWakesOut t u z a

-- how a list can wake when a candidate has left it: it is one token, and wakes that one and what deletes the atom
pub record TakenWakes (t : TaskShape) (u : Sheet) (x p : ℕ) (c : Cand) : Type 0 where
  pub one : IsToken (cands u x p) (only (cands u x p))
  pub whom : (Tok (only (cands u x p)) ≡ c) ⊎ Deletes t (kind_of u c) p

-- how an order can wake a token: it is the second, or the first is a candidate of it
abbrev pub PostedWakes : Sheet → ℕ → ℕ → ℕ → Type 0
PostedWakes u x y z = (y ≡ z) ⊎ Feeds u (Tok x) z

-- whom a change can wake: the table by what it changes and where
abbrev pub CanWake : TaskShape → Sheet → Change → Cand → Type 0
CanWake t u (Raise (Tok z) v) (Tok y) = RaisedWakes t u z y
CanWake t u (Raise (Tok z) v) (Out a) = RaisedWakesOut t u z a
CanWake t u (Raise (Out o) v) (Tok y) = Feeds u (Out o) y
CanWake t u (Raise (Out o) v) (Out a) = Helps t (Act o) a
CanWake t u (Lower (Tok z) v) (Tok y) = LoweredWakes t u z y
CanWake t u (Lower (Tok z) v) (Out a) = LoweredWakesOut t u z a
CanWake t u (Lower (Out o) v) (Tok y) = Feeds u (Out o) y
CanWake t u (Lower (Out o) v) (Out a) = IsShut (span_of u (Out o)) × Helps t (Act o) a
CanWake t u (Take x p d) c = TakenWakes t u x p c
CanWake t u (Post x y) (Tok z) = PostedWakes u x y z
CanWake t u (Post x y) (Out a) = ⊥

-- only those of the table are woken
abbrev pub WakesByTable : Type 0
WakesByTable =
    (rules : List ℕ) (t : TaskShape) (b : Tables) (u : Sheet) (ch : Change) (c : Cand) (step : Step) → IsFormed t u → subject_of ch ≢ c →
    IsWokenBy rules t b u ch c step → CanWake t u ch c

-- whom the table does not name stays closed, whatever the rules
abbrev pub UnrelatedStaysClosed : Type 0
UnrelatedStaysClosed =
    (rules : List ℕ) (t : TaskShape) (b : Tables) (u : Sheet) (step : Step) (c : Cand) → IsFormed t u → subject_of (change_of u step) ≢ c →
    (CanWake t u (change_of u step) c → ⊥) → StaysClosed rules t b u step c

-- the decision wakes what this change wakes: a join what any candidate that leaves the list wakes
abbrev pub IsLikeChange : Decision → Change → Type 0
IsLikeChange (Join x p y) (Take z q c) = (z ≡ x) × (q ≡ p)
IsLikeChange (Before x y) (Post z w) = (z ≡ x) × (w ≡ y)
IsLikeChange d ch = ⊥

-- what an order or a join of a live sheet does not wake keeps having no legal step: the order is posted, or a candidate
-- left the list for p
abbrev pub DecisionWakes : Type 0
DecisionWakes =
    (rules : List ℕ) (t : TaskShape) (b : Tables) (s : Sheet) (d : Decision) (ch : Change) (c : Cand) → IsFormed t s → IsLive s → Fits s d →
    IsLikeChange d ch → subject_of ch ≢ c → (CanWake t (applied t s d) ch c → ⊥) → IsClosedAt rules t b s c → IsClosedAt rules t b (applied t s d) c

-- A new token of a wakes no outside action but those that interfere with a and those that delete the atom that it is
-- brought for.
abbrev pub BringWakes : Type 0
BringWakes =
    (rules : List ℕ) (t : TaskShape) (b : Tables) (s : Sheet) (x p a o : ℕ) → IsFormed t s → IsLive s → Fits s (Bring x p a) →
    (Clash t (Act a) (Act o) → ⊥) → (Deletes t (Act o) p → ⊥) → IsClosedAt rules t b s (Out o) → IsClosedAt rules t b (applied t s (Bring x p a)) (Out o)
