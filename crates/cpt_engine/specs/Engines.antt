use Rattle.std.specs.Prelude.{◌≡◌, ℕ, ◌+◌, ◌≤◌, List, [], ◌∷◌, ◌++◌, length, take, Some, None}
use Rattle.cpt_task.specs.Shape.{TaskShape}
use Rattle.cpt_tables.specs.declared.tables.Tables.{Tables}
use Rattle.cpt_sheet.specs.declared.data.Sheet.{Sheet}
use Rattle.cpt_sheet.specs.declared.data.Step.{Step}
use Rattle.cpt_sheet.specs.declared.data.Decision.{Decision}
use Rattle.cpt_sheet.specs.Formed.{IsFormed}
use Rattle.cpt_sheet.specs.Gaps.{FitsTask}
use Rattle.cpt_sheet.specs.Live.{IsLive, IsDead}
use Rattle.cpt_calculus.specs.Closing.{IsFresh}
use Rattle.cpt_calculus.specs.Decisions.{Fits, applied}
use Rattle.cpt_calculus.specs.Root.{root_of}
use Rattle.cpt_steps.specs.Tight.{RunsTight}
use Rattle.cpt_store.specs.Stores.{Mark, StoreShape}
use Rattle.cpt_agenda.specs.declared.users.Users.{Users}
use Rattle.cpt_agenda.specs.Users.{AreUsersOf}
use Rattle.cpt_engine.specs.declared.state.State.{State}
use Rattle.cpt_engine.specs.declared.state.State.TheVariants.{Alive, Dead}
use Rattle.cpt_engine.specs.Running.{HasGrown, HasMark}

-- what is seen of an engine: its task, tables and bound, the standing decisions, the steps since the opening with the
-- number of them before each decision, its sheet and its marks from the oldest to the newest, its state, and how many
-- calls were answered
pub record EngineShape : Type 0 where
  pub task : TaskShape
  pub tables : Tables
  pub bound : ℕ
  pub decisions : List Decision
  pub starts : List ℕ
  pub all_steps : List Step
  pub sheet : Sheet
  pub marks : List Mark
  pub state : State
  pub used : ℕ

-- where the steps of a list of decisions begin: at the root, or at the sheet after the last decision
pub data IsBeginning (rules : List ℕ) (t : TaskShape) (b : Tables) (bound : ℕ) (ds : List Decision) (s : Sheet) : Type 0 where
  here : ds ≡ [] → s ≡ root_of t b bound → IsBeginning rules t b bound ds s
  after : (es : List Decision) (d : Decision) (u : Sheet) → ds ≡ es ++ d ∷ [] → IsFresh rules t b bound es (Some u) → Fits u d → s ≡ applied t u d → IsBeginning rules t b bound ds s

-- the sheet is live and the fresh one, or it is dead and so is the fresh one
abbrev pub IsOutcome : State → List ℕ → TaskShape → Tables → ℕ → List Decision → Sheet → Type 0
IsOutcome Alive rules t b bound ds u = IsLive u × IsFresh rules t b bound ds (Some u)
IsOutcome Dead rules t b bound ds u = IsDead u × IsFresh rules t b bound ds None

-- the steps, each legal and with the value of its row, lead from where those of the decisions begin to the sheet, which is
-- the fresh one or dead
pub record IsReached (state : State) (rules : List ℕ) (t : TaskShape) (b : Tables) (bound : ℕ) (ds : List Decision) (steps : List Step) (u : Sheet) : Type 0 where
  pub from : Sheet
  pub begins : IsBeginning rules t b bound ds from
  pub leads : RunsTight rules t b from steps u
  pub formed : IsFormed t u
  pub few : length u.tokens ≤ 4200000000
  pub outcome : IsOutcome state rules t b bound ds u

-- each sheet of a mark is the fresh one of the decisions before it, to which its steps lead
pub data HasPast (rules : List ℕ) (t : TaskShape) (b : Tables) (bound : ℕ) : List Decision → List ℕ → List Step → List Mark → Type 0 where
  none : (ds : List Decision) (starts : List ℕ) (past : List Step) (marks : List Mark) → ds ≡ [] → starts ≡ [] → past ≡ [] → marks ≡ [] → HasPast rules t b bound ds starts past marks
  more : (ds : List Decision) (starts : List ℕ) (past : List Step) (marks : List Mark) (es : List Decision) (d : Decision) (ns : List ℕ) (before steps : List Step) (ms : List Mark) (m : Mark) →
      ds ≡ es ++ d ∷ [] → starts ≡ ns ++ length past ∷ [] → past ≡ before ++ steps → marks ≡ ms ++ m ∷ [] → HasPast rules t b bound es ns before ms →
      IsReached Alive rules t b bound es steps m.sheet → Fits m.sheet d → HasPast rules t b bound ds starts past marks

-- what always holds of an engine: the state, the sheet and the steps are those of a fresh computation from the standing decisions
pub record Stands (rules : List ℕ) (e : EngineShape) : Type 0 where
  pub fits : FitsTask e.task e.tables
  pub limit : e.bound ≤ 1000000
  pub past : List Step
  pub now : List Step
  pub all : e.all_steps ≡ past ++ now
  pub history : HasPast rules e.task e.tables e.bound e.decisions e.starts past e.marks
  pub reached : IsReached e.state rules e.task e.tables e.bound e.decisions now e.sheet

-- what always holds of an engine, its store and its lists of actions, which are of the engine's task
pub record IsKept (rules : List ℕ) (s : StoreShape) (u : Users) (e : EngineShape) : Type 0 where
  pub stands : Stands rules e
  pub task : s.task ≡ e.task
  pub users : AreUsersOf e.task u

-- a further decision stands
pub record IsDecided (old : EngineShape) (d : Decision) (s : State) (new : EngineShape) : Type 0 where
  pub task : new.task ≡ old.task
  pub tables : new.tables ≡ old.tables
  pub bound : new.bound ≡ old.bound
  pub decisions : new.decisions ≡ old.decisions ++ d ∷ []
  pub starts : new.starts ≡ old.starts ++ length old.all_steps ∷ []
  pub steps : HasGrown old.all_steps new.all_steps
  pub marks : HasMark old.sheet old.marks new.marks
  pub state : new.state ≡ s
  pub used : new.used ≡ old.used + 1

-- the newest decision is gone: the sheet is the one from before it, and the steps are those from before it
pub record IsRetracted (old new : EngineShape) (before after : ℕ) : Type 0 where
  pub decision : Decision
  pub start : ℕ
  pub mark : Mark
  pub task : new.task ≡ old.task
  pub tables : new.tables ≡ old.tables
  pub bound : new.bound ≡ old.bound
  pub decisions : old.decisions ≡ new.decisions ++ decision ∷ []
  pub starts : old.starts ≡ new.starts ++ start ∷ []
  pub marks : old.marks ≡ new.marks ++ mark ∷ []
  pub sheet : new.sheet ≡ mark.sheet
  pub state : new.state ≡ Alive
  pub used : new.used ≡ old.used
  pub steps : new.all_steps ≡ take start old.all_steps
  pub ticks : after ≤ before + mark.written

-- the bound is this one, and no decision stands
pub record IsReopened (old : EngineShape) (bound : ℕ) (new : EngineShape) : Type 0 where
  pub task : new.task ≡ old.task
  pub tables : new.tables ≡ old.tables
  pub at_bound : new.bound ≡ bound
  pub decisions : new.decisions ≡ []
  pub marks : new.marks ≡ []
  pub used : new.used ≡ old.used + 1

-- all but the count of answered calls is as it was
pub record IsAsBefore (old new : EngineShape) : Type 0 where
  pub task : new.task ≡ old.task
  pub tables : new.tables ≡ old.tables
  pub at_bound : new.bound ≡ old.bound
  pub decisions : new.decisions ≡ old.decisions
  pub starts : new.starts ≡ old.starts
  pub steps : new.all_steps ≡ old.all_steps
  pub sheet : new.sheet ≡ old.sheet
  pub marks : new.marks ≡ old.marks
  pub state : new.state ≡ old.state

-- a retraction gives what was before the decision
abbrev pub RetractionsGiveBack : Type 0
RetractionsGiveBack = (e f g : EngineShape) (d : Decision) (s : State) (m n : ℕ) → e.state ≡ Alive → IsDecided e d s f → IsRetracted f g m n → IsAsBefore e g
