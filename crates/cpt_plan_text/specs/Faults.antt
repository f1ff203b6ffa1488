use Rattle.std.specs.Prelude.{◌≡◌, ℕ, ◌+◌, ◌<◌, List, Some, Ok, Err, slice_get}
use Rattle.cpt_task.specs.Shape.{TaskShape}
use Rattle.cpt_plan_text.specs.declared.roster.Found.{Found}
use Rattle.cpt_plan_text.specs.declared.reading.Item.{Item}
use Rattle.cpt_plan_text.specs.declared.reading.PlanText.{PlanText}
use Rattle.cpt_plan_text.specs.declared.reading.PlanTextError.{PlanTextError}
use Rattle.cpt_plan_text.specs.Meaning.{item_at, lines_of, occ_at, plan_of}

-- the line at this place, from 0, is not in the grammar, has an unknown name or starts too late
abbrev pub HasFault : (List ℕ → Found) → TaskShape → List ℕ → PlanTextError → ℕ → Type 0
HasFault finds t text e k = (line : List ℕ) × (slice_get (lines_of text) k ≡ Some line) × (item_at finds t (1 + k) line ≡ Err e)

-- the line at this place, from 0, has an entry with a wrong duration or an unreachable action
abbrev pub HasLateFault : (List ℕ → Found) → TaskShape → List ℕ → PlanTextError → ℕ → Type 0
HasLateFault finds t text e k = (line : List ℕ) × (item : Item) × (slice_get (lines_of text) k ≡ Some line) × (item_at finds t (1 + k) line ≡ Ok (Some item)) × (occ_at item ≡ Err e)

-- there is no fault
abbrev pub HasNone : (PlanTextError → ℕ → Type 0) → Type 0
HasNone P = (e : PlanTextError) (k : ℕ) → P e k → ⊥

-- the first place with a fault is this one, with this fault
pub record IsFirstFault (P : PlanTextError → ℕ → Type 0) (e : PlanTextError) (k : ℕ) : Type 0 where
  pub here : P e k
  pub none_before : (d : PlanTextError) (j : ℕ) → j < k → P d j → ⊥

-- where a line has a fault of the first kind, the first such line is answered
abbrev pub FaultsComeFirst : (List ℕ → Found) → TaskShape → List ℕ → Type 0
FaultsComeFirst finds t text = (e : PlanTextError) (k : ℕ) → IsFirstFault (HasFault finds t text) e k → plan_of finds t text ≡ Err e

-- where none has, but one has a fault of the second kind, the first such line is answered
abbrev pub LateFaultsComeNext : (List ℕ → Found) → TaskShape → List ℕ → Type 0
LateFaultsComeNext finds t text = HasNone (HasFault finds t text) → (e : PlanTextError) (k : ℕ) → IsFirstFault (HasLateFault finds t text) e k → plan_of finds t text ≡ Err e

-- where no line has a fault, there is a plan
abbrev pub FaultlessIsRead : (List ℕ → Found) → TaskShape → List ℕ → Type 0
FaultlessIsRead finds t text = HasNone (HasFault finds t text) → HasNone (HasLateFault finds t text) → (plan : PlanText) × (plan_of finds t text ≡ Ok plan)
