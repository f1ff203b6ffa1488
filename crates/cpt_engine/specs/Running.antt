use Rattle.std.specs.Prelude.{◌≡◌, ℕ, ◌+◌, ◌*◌, ◌≤◌, ◌<◌, List, [], ◌∷◌, ◌++◌, length}
use Rattle.cpt_task.specs.Shape.{TaskShape}
use Rattle.cpt_tables.specs.declared.tables.Tables.{Tables}
use Rattle.cpt_sheet.specs.declared.data.Cand.{Cand}
use Rattle.cpt_sheet.specs.declared.data.Sheet.{Sheet}
use Rattle.cpt_sheet.specs.declared.data.Step.{Step}
use Rattle.cpt_sheet.specs.declared.data.Decision.{Decision}
use Rattle.cpt_sheet.specs.View.{has}
use Rattle.cpt_sheet.specs.Formed.{IsFormed}
use Rattle.cpt_sheet.specs.Gaps.{FitsTask}
use Rattle.cpt_sheet.specs.Live.{IsLive, IsDead}
use Rattle.cpt_calculus.specs.Closing.{IsClosed}
use Rattle.cpt_calculus.specs.Decisions.{Fits, applied}
use Rattle.cpt_steps.specs.Tight.{RunsTight}
use Rattle.cpt_steps.specs.Room.{room}
use Rattle.cpt_waking.specs.Waking.{IsSettled}
use Rattle.cpt_engine.specs.declared.state.State.{State}
use Rattle.cpt_engine.specs.declared.state.State.TheVariants.{Alive, Dead}
use Rattle.cpt_store.specs.Stores.{Mark}
use Rattle.cpt_agenda.specs.Agendas.{AgendaShape}
use Rattle.cpt_agenda.specs.Asked.{AreThere}

-- steps, each legal and with the value of its row, were put behind the old ones, and lead from the one sheet to the other
pub record HasLed (rules : List ℕ) (t : TaskShape) (b : Tables) (from to : Sheet) (old new : List Step) : Type 0 where
  pub steps : List Step
  pub all : new ≡ old ++ steps
  pub leads : RunsTight rules t b from steps to
  pub formed : IsFormed t to
  pub tokens : length to.tokens ≡ length from.tokens

-- steps were put behind the old ones
pub record HasGrown (old new : List Step) : Type 0 where
  pub steps : List Step
  pub all : new ≡ old ++ steps

-- while steps are made: each that is there is among these or has no legal step
pub record IsRunning (rules : List ℕ) (t : TaskShape) (b : Tables) (s : Sheet) (a : AgendaShape) (cs : List Cand) : Type 0 where
  pub fits : FitsTask t b
  pub formed : IsFormed t s
  pub few : length s.tokens ≤ 4200000000
  pub tokens : length s.tokens ≤ a.tokens
  pub acts : length t.actions ≤ a.acts
  pub within : length a.waiting ≤ a.room
  pub there : AreThere t s cs
  pub settled : IsSettled rules t b s (λ c. has c cs)

-- the sheet is dead, or live and closed
abbrev pub IsSettledAs : State → List ℕ → TaskShape → Tables → Sheet → Type 0
IsSettledAs Alive rules t b s = IsLive s × IsClosed rules t b s
IsSettledAs Dead rules t b s = IsDead s

-- the sheet is the one after a decision at a live and closed sheet
pub record IsAfter (rules : List ℕ) (t : TaskShape) (b : Tables) (d : Decision) (u : Sheet) : Type 0 where
  pub before : Sheet
  pub formed : IsFormed t before
  pub live : IsLive before
  pub closed : IsClosed rules t b before
  pub fits : Fits before d
  pub after : u ≡ applied t before d

-- how much work is left, at most
abbrev pub work : Sheet → ℕ → List Cand → ℕ
work s n cs = room s * (n + 1) + length cs

-- after one step of a subject: the sheet is dead, or live, less work is left and all are settled but those who wait and the subject
pub record IsOn (rules : List ℕ) (t : TaskShape) (b : Tables) (c : Cand) (s u : Sheet) (old new : AgendaShape) : Type 0 where
  pub live : IsLive u
  pub running : IsRunning rules t b u new (c ∷ new.waiting)
  pub less : work u new.room (c ∷ new.waiting) ≤ work s old.room (c ∷ old.waiting)
  pub falls : room u < room s

-- one step was made for a subject: the sheet is dead, or it is live and less work is left
abbrev pub IsAdvanced : State → List ℕ → TaskShape → Tables → Cand → Sheet → Sheet → AgendaShape → AgendaShape → Type 0
IsAdvanced Alive rules t b c s u old new = IsOn rules t b c s u old new
IsAdvanced Dead rules t b c s u old new = IsDead u

-- the sheet is live and all are settled but those who wait, with less work
pub record IsOff (rules : List ℕ) (t : TaskShape) (b : Tables) (u : Sheet) (new : AgendaShape) (most : ℕ) : Type 0 where
  pub live : IsLive u
  pub running : IsRunning rules t b u new new.waiting
  pub less : work u new.room new.waiting < most

-- one turn is done: the sheet is dead, or it is live and less work is left than this
abbrev pub IsTurned : State → List ℕ → TaskShape → Tables → Sheet → AgendaShape → ℕ → Type 0
IsTurned Alive rules t b u new most = IsOff rules t b u new most
IsTurned Dead rules t b u new most = IsDead u

-- a mark more, with this sheet
pub record HasMark (s : Sheet) (old new : List Mark) : Type 0 where
  pub written : ℕ
  pub marks : new ≡ old ++ record { sheet = s; written = written } ∷ []
