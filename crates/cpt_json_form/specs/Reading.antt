-- Which task or plan a JSON text is, or why it is none.
use Rattle.std.specs.Prelude.{◌≡◌, ◌≢◌, ℕ, ◌<◌, ◌≤◌, List, length, map, All, Option, None, Some, Result, Ok, Err, slice_index_or, ⊤}
use Rattle.std.specs.List.Sorted.{IsStrictlyIncreasing}
use Rattle.std.specs.Str.{IsUtf8}
use Rattle.serde_json.specs.Data.{Data}
use Rattle.serde_json.specs.Read.{read}
use Rattle.cpt_task.specs.declared.memory.Limit.TheVariants.{Atoms, Actions, LongList, Start}
use Rattle.cpt_task.specs.declared.task.Action.{Action}
use Rattle.cpt_task.specs.declared.plan.Occ.{Occ}
use Rattle.cpt_task.specs.Shape.{TaskShape, IsDuration}
use Rattle.cpt_task.specs.Timeline.{idle}
use Rattle.cpt_line.specs.Names.{AreNames}
use Rattle.cpt_task_text.specs.Plain.{names_of}
use Rattle.cpt_plan_text.specs.declared.roster.Found.{Found}
use Rattle.cpt_plan_text.specs.declared.roster.Found.TheVariants.{Known, Unreachable, Unknown}
use Rattle.cpt_plan_text.specs.Knowing.{task_finds}
use Rattle.cpt_json_form.specs.declared.errors.JsonTaskError.{JsonTaskError}
use Rattle.cpt_json_form.specs.declared.errors.JsonTaskError.TheVariants as task_errors
use Rattle.cpt_json_form.specs.declared.errors.JsonPlanError.{JsonPlanError}
use Rattle.cpt_json_form.specs.declared.errors.JsonPlanError.TheVariants as plan_errors
use Rattle.cpt_json_form.specs.declared.errors.Misread.{Misread}
use Rattle.cpt_json_form.specs.declared.errors.Misread.TheVariants as misreads
use Rattle.cpt_json_form.specs.declared.item.PlanItem.{PlanItem}
use Rattle.cpt_json_form.specs.Steps.{Finds, Passes, PassesEach}
use Rattle.cpt_json_form.specs.Values.{plan_value, task_value}

-- a text is JSON, and it reads as this value
pub record IsValueOf (text : List ℕ) (d : Data) : Type 0 where
  pub utf8 : IsUtf8 text
  pub reads : read text ≡ Some d

-- the lists of an action keep within their limits
pub record HasShortLists (a : Action) : Type 0 where
  pub pre : length a.pre ≤ 64
  pub add : length a.add ≤ 128
  pub dele : length a.dele ≤ 128

-- strictly increasing numbers of atoms, where there are n
pub record AreAtoms (n : ℕ) (ns : List ℕ) : Type 0 where
  pub increasing : IsStrictlyIncreasing ns
  pub within : All (λ p. p < n) ns

-- the lists of an action have such numbers
pub record HasAtoms (n : ℕ) (a : Action) : Type 0 where
  pub pre : AreAtoms n a.pre
  pub add : AreAtoms n a.add
  pub dele : AreAtoms n a.dele

-- each list of a task has such numbers
pub record NamesAtoms (t : TaskShape) : Type 0 where
  pub actions : All (HasAtoms (length t.atoms)) t.actions
  pub init : AreAtoms (length t.atoms) t.init
  pub goal : AreAtoms (length t.atoms) t.goal

-- the atoms and the actions have names
pub record HasNames (t : TaskShape) : Type 0 where
  pub atoms : AreNames t.atoms
  pub actions : AreNames (names_of t.actions)

-- What is asked of a task that has the form, in this order, each with its refusal; x is answered where all is so.
abbrev pub AnswersForm : {X : Type 0} → TaskShape → X → Result X JsonTaskError → Type 0
AnswersForm t x =
    Passes (length t.atoms ≤ 2048) (task_errors.Limit Atoms)
    (Passes (length t.actions ≤ 4096) (task_errors.Limit Actions)
    (Passes (All HasShortLists t.actions) (task_errors.Limit LongList)
    (Passes (HasNames t) task_errors.BadName
    (Passes (NamesAtoms t) task_errors.Atom
    (Passes (All (λ a. IsDuration a.dur) t.actions) task_errors.Duration (λ r. r ≡ Ok x))))))

-- the task that a text is, or why it is none
abbrev pub ReadsTask : List ℕ → Result TaskShape JsonTaskError → Type 0
ReadsTask text = Finds (IsValueOf text) task_errors.Syntax (λ d. Finds (λ t. d ≡ task_value t) task_errors.Shape (λ t. AnswersForm t t))

-- the number of an action that is found, or 0
abbrev pub number_found : Found → ℕ
number_found (Known act) = act
number_found (Unreachable dur) = 0
number_found Unknown = 0

-- the first action of the name of an item
abbrev pub act_of : TaskShape → PlanItem → ℕ
act_of t i = number_found (task_finds t i.name)

-- how long that action lasts
abbrev pub lasts : TaskShape → PlanItem → ℕ
lasts t i = (slice_index_or t.actions (act_of t i) idle).dur

-- an item names an action of the task
abbrev pub NamesAction : TaskShape → PlanItem → Type 0
NamesAction t i = (act : ℕ) × (task_finds t i.name ≡ Known act)

-- a duration that is said is this one
abbrev pub IsOrIsNone : Option ℕ → ℕ → Type 0
IsOrIsNone None right = ⊤
IsOrIsNone (Some dur) right = dur ≡ right

-- what is said of a duration is right
abbrev pub IsTimed : TaskShape → PlanItem → Type 0
IsTimed t i = IsOrIsNone i.dur (lasts t i)

-- an item as an occurrence
abbrev pub occ_of : TaskShape → PlanItem → Occ
occ_of t i = record { act = act_of t i; start = i.start }

-- What is asked of items of a plan, in this order, each with its refusal; their occurrences are answered where all is so.
abbrev pub AnswersItems : TaskShape → List PlanItem → Result (List Occ) JsonPlanError → Type 0
AnswersItems t items =
    PassesEach (NamesAction t) (λ place i. plan_errors.Unknown place) items
    (Passes (All (λ i. i.start ≤ 1000000000) items) (plan_errors.Limit Start)
    (PassesEach (IsTimed t) (λ place i. plan_errors.Duration place (lasts t i)) items (λ r. r ≡ Ok (map (occ_of t) items))))

-- the plan over a task that a text is, or why it is none
abbrev pub ReadsPlan : TaskShape → List ℕ → Result (List Occ) JsonPlanError → Type 0
ReadsPlan t text = Finds (IsValueOf text) plan_errors.Syntax (λ d. Finds (λ items. d ≡ plan_value items) plan_errors.Shape (λ items. AnswersItems t items))

-- what a call returned, seen by a view, is what P says, unless memory ran out
abbrev pub GivesTask : {X Y : Type 0} → (X → Y) → Result X JsonTaskError → (Result Y JsonTaskError → Type 0) → Type 0
GivesTask view (Ok x) P = P (Ok (view x))
GivesTask view (Err task_errors.Memory) P = ⊤
GivesTask view (Err task_errors.Syntax) P = P (Err task_errors.Syntax)
GivesTask view (Err task_errors.Shape) P = P (Err task_errors.Shape)
GivesTask view (Err (task_errors.Limit which)) P = P (Err (task_errors.Limit which))
GivesTask view (Err task_errors.BadName) P = P (Err task_errors.BadName)
GivesTask view (Err task_errors.Atom) P = P (Err task_errors.Atom)
GivesTask view (Err task_errors.Duration) P = P (Err task_errors.Duration)

-- a result says what P asks of what it shows, or memory ran out
abbrev pub GivesPlan : {X Y : Type 0} → (X → Y) → Result X JsonPlanError → (Result Y JsonPlanError → Type 0) → Type 0
GivesPlan view (Ok x) P = P (Ok (view x))
GivesPlan view (Err plan_errors.Memory) P = ⊤
GivesPlan view (Err plan_errors.Syntax) P = P (Err plan_errors.Syntax)
GivesPlan view (Err plan_errors.Shape) P = P (Err plan_errors.Shape)
GivesPlan view (Err (plan_errors.Unknown place)) P = P (Err (plan_errors.Unknown place))
GivesPlan view (Err (plan_errors.Limit which)) P = P (Err (plan_errors.Limit which))
GivesPlan view (Err (plan_errors.Duration place right)) P = P (Err (plan_errors.Duration place right))

-- the errors of values that are not read
abbrev pub misread_task : Misread → JsonTaskError
misread_task misreads.Shape = task_errors.Shape
misread_task misreads.Memory = task_errors.Memory

-- what an item that is not read makes of a plan
abbrev pub misread_plan : Misread → JsonPlanError
misread_plan misreads.Shape = plan_errors.Shape
misread_plan misreads.Memory = plan_errors.Memory

-- a value is read in a form, unless memory ran out: it is that of what is found, or it is that of nothing
abbrev pub ReadsForm : {A : Type 0} → (A → Data) → Data → Result A Misread → Type 0
ReadsForm value d (Ok x) = d ≡ value x
ReadsForm {A} value d (Err misreads.Shape) = (x : A) → d ≢ value x
ReadsForm value d (Err misreads.Memory) = ⊤
