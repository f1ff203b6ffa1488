use Rattle.std.specs.Prelude.{◌≡◌, ℕ, ◌<◌, ◌≤◌, ◌⊎◌, List, [], ◌∷◌, length, map, drop}
use Rattle.std.specs.List.{AllPairs}
use Rattle.std.specs.List.Sorted.{IsPermutation}
use Rattle.cpt_task.specs.declared.plan.Occ.{Occ}
use Rattle.cpt_task.specs.declared.span.Span.TheVariants.{At}
use Rattle.cpt_task.specs.Shape.{TaskShape, InBounds}
use Rattle.cpt_task.specs.Timeline.{occurrence_at, makespan, IsValid}
use Rattle.cpt_tables.specs.declared.tables.Tables.{Tables}
use Rattle.cpt_sheet.specs.declared.data.Cand.TheVariants.{Tok}
use Rattle.cpt_sheet.specs.declared.data.Kind.{Kind}
use Rattle.cpt_sheet.specs.declared.data.Kind.TheVariants.{Start, End, Act}
use Rattle.cpt_sheet.specs.declared.data.Token.{Token}
use Rattle.cpt_sheet.specs.declared.data.Sheet.{Sheet}
use Rattle.cpt_sheet.specs.Edits.{moment_or}
use Rattle.cpt_sheet.specs.Formed.{IsFormed}
use Rattle.cpt_sheet.specs.Live.{IsLive}
use Rattle.cpt_sheet.specs.View.{lo, kind_of}
use Rattle.cpt_calculus.specs.Closing.{IsClosed}
use Rattle.cpt_calculus.specs.Flaws.{HasNoFlaw}

-- a live sheet without a flaw, at which no step of rules 1 and 6 is legal
pub record IsSolved (t : TaskShape) (b : Tables) (u : Sheet) : Type 0 where
  pub bounds : InBounds t
  pub formed : IsFormed t u
  pub live : IsLive u
  pub closed : IsClosed (1 ∷ 6 ∷ []) t b u
  pub flawless : HasNoFlaw t u

-- the action of a token; the start and the end have none
abbrev pub act_of : Kind → ℕ
act_of Start = 0
act_of End = 0
act_of (Act a) = a

-- the occurrence of an action token: its action, at the token's first moment
abbrev pub occurrence_of : Token → Occ
occurrence_of z = record { act = act_of z.kind; start = moment_or z.span.lo 0 }

-- the occurrences of the action tokens, in the order of the tokens
abbrev pub token_occurrences : Sheet → List Occ
token_occurrences u = map occurrence_of (drop 2 u.tokens)

-- the one starts earlier than the other, or then and its action has no greater number
abbrev pub ComesBefore : Occ → Occ → Type 0
ComesBefore o q = (o.start < q.start) ⊎ ((o.start ≡ q.start) × (o.act ≤ q.act))

-- by start, then by action number
abbrev pub IsInPlanOrder : List Occ → Type 0
IsInPlanOrder plan = AllPairs ComesBefore plan

-- the plan of a leaf: each action token at its first moment, by start and then by action number
pub record IsPlanOfSheet (u : Sheet) (plan : List Occ) : Type 0 where
  pub tokens : IsPermutation (token_occurrences u) plan
  pub order : IsInPlanOrder plan

-- the plan of a leaf is valid, and its makespan is at most the bound, in whatever order its occurrences stand
abbrev pub LeafPlansValid : Type 0
LeafPlansValid = (t : TaskShape) (b : Tables) (u : Sheet) (plan : List Occ) → IsSolved t b u → IsPermutation (token_occurrences u) plan → IsValid t plan × (makespan t plan ≤ u.bound)

-- a sheet has one plan
abbrev pub OnePlan : Type 0
OnePlan = (u : Sheet) (plan other : List Occ) → IsPlanOfSheet u plan → IsPlanOfSheet u other → plan ≡ other

-- g gives the token of each place of the plan: the plan has each action token once, at its first moment
pub record IsTokenMap (u : Sheet) (plan : List Occ) (g : ℕ → ℕ) : Type 0 where
  pub token : (i : ℕ) → i < length plan → (2 ≤ g i) × (g i < length u.tokens)
  pub act : (i : ℕ) → i < length plan → kind_of u (Tok (g i)) ≡ Act (occurrence_at plan i).act
  pub start : (i : ℕ) → i < length plan → lo u (Tok (g i)) ≡ At (occurrence_at plan i).start
  pub apart : (i j : ℕ) → i < length plan → j < length plan → g i ≡ g j → i ≡ j
  pub whole : (x : ℕ) → 2 ≤ x → x < length u.tokens → (i : ℕ) × (i < length plan) × (g i ≡ x)
