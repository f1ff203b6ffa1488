use Rattle.std.specs.Prelude.{◌≡◌, ℕ, ◌<◌, true, List, [], ◌∷◌, ◌++◌, length, All}
use Rattle.cpt_task.specs.declared.span.Span.{Span}
use Rattle.cpt_task.specs.Shape.{TaskShape, InBounds}
use Rattle.cpt_tables.specs.declared.tables.Tables.{Tables}
use Rattle.cpt_tables.specs.Spans.{◌≤ˢ◌, IsBelow}
use Rattle.cpt_sheet.specs.declared.data.Cand.{Cand}
use Rattle.cpt_sheet.specs.declared.data.Cand.TheVariants.{Tok, Out}
use Rattle.cpt_sheet.specs.declared.data.Kind.{Kind}
use Rattle.cpt_sheet.specs.declared.data.Sheet.{Sheet}
use Rattle.cpt_sheet.specs.declared.data.Step.{Step}
use Rattle.cpt_sheet.specs.declared.data.Step.TheVariants.{R1, R2, R3, R4, R5, R6, R7, R8, R9After, R9Ahead, R10, R11After, R11Ahead, R12After, R12Ahead, R13}
use Rattle.cpt_sheet.specs.Formed.{IsFormed}
use Rattle.cpt_sheet.specs.Gaps.{FitsTask, gap, arrival, deadline}
use Rattle.cpt_sheet.specs.Live.{IsLive, IsOpen}
use Rattle.cpt_sheet.specs.View.{cands, span_of}
use Rattle.cpt_calculus.specs.Rules.{IsBeforeTokens, IsBeforeOuts, IsLegal, is_of, narrowed, only}
use Rattle.cpt_calculus.specs.Closing.{Leads}

-- v is the greatest span of which L holds
pub record IsGreatest (L : Span → Type 0) (v : Span) : Type 0 where
  pub holds : L v
  pub greatest : (w : Span) → L w → w ≤ˢ v

-- no later than the arrival at x from each candidate for p
abbrev pub IsBeforeAll : TaskShape → Tables → Sheet → ℕ → ℕ → Span → Type 0
IsBeforeAll t b s x p v = All (λ c. v ≤ˢ arrival t b s c (Tok x)) (cands s x p)

-- no later than the arrival at Out a from each that adds p
pub record IsBeforeAdders (t : TaskShape) (b : Tables) (s : Sheet) (a p : ℕ) (v : Span) : Type 0 where
  pub tokens : IsBeforeTokens t b s a p v
  pub outs : IsBeforeOuts t b s a p v

-- the step has the very value that its row gives, and no weaker one
abbrev pub IsTight : TaskShape → Tables → Sheet → Step → Type 0
IsTight t b s (R1 x y v) = v ≡ arrival t b s (Tok x) (Tok y)
IsTight t b s (R2 x y v) = v ≡ deadline t b s (Tok x) (Tok y)
IsTight t b s (R3 x y) = Unit {0}
IsTight t b s (R4 x p v) = IsGreatest (IsBeforeAll t b s x p) v
IsTight t b s (R5 x p c) = Unit {0}
IsTight t b s (R6 x p) = Unit {0}
IsTight t b s (R7 x p a) = Unit {0}
IsTight t b s (R8 x p c d) = Unit {0}
IsTight t b s (R9After x p d) = Unit {0}
IsTight t b s (R9Ahead x p d) = Unit {0}
IsTight t b s (R10 a p v) = IsGreatest (IsBeforeAdders t b s a p) v
IsTight t b s (R11After x p a v) = v ≡ arrival t b s (Tok x) (Out a)
IsTight t b s (R11Ahead x p a v) = v ≡ deadline t b s (Out a) (Tok (only (cands s x p)))
IsTight t b s (R12After x a v) = v ≡ arrival t b s (Tok x) (Out a)
IsTight t b s (R12Ahead x a v) = v ≡ deadline t b s (Out a) (Tok x)
IsTight t b s (R13 x p c q) = Unit {0}

-- the step with another value, where it has one
abbrev pub with_value : Step → Span → Step
with_value (R1 x y v) w = R1 x y w
with_value (R2 x y v) w = R2 x y w
with_value (R3 x y) w = R3 x y
with_value (R4 x p v) w = R4 x p w
with_value (R5 x p c) w = R5 x p c
with_value (R6 x p) w = R6 x p
with_value (R7 x p a) w = R7 x p a
with_value (R8 x p c d) w = R8 x p c d
with_value (R9After x p d) w = R9After x p d
with_value (R9Ahead x p d) w = R9Ahead x p d
with_value (R10 a p v) w = R10 a p w
with_value (R11After x p a v) w = R11After x p a w
with_value (R11Ahead x p a v) w = R11Ahead x p a w
with_value (R12After x a v) w = R12After x a w
with_value (R12Ahead x a v) w = R12Ahead x a w
with_value (R13 x p c q) w = R13 x p c q

-- an arrival from a token or from a live outside action is below 2 * 10^15, and any other below 4 * 10^15
pub record ArrivalsFit (t : TaskShape) (b : Tables) (s : Sheet) : Type 0 where
  pub tokens : (x : ℕ) (d : Cand) → x < length s.tokens → IsBelow 2000000000000000 (arrival t b s (Tok x) d)
  pub outs : (a : ℕ) (d : Cand) → IsOpen (span_of s (Out a)) → IsBelow 2000000000000000 (arrival t b s (Out a) d)
  pub all : (c d : Cand) → IsBelow 4000000000000000 (arrival t b s c d)

-- the steps, each of these rules, legal where it stands and with the very value of its row, lead from the one sheet to
-- the other
abbrev pub RunsTight : List ℕ → TaskShape → Tables → Sheet → List Step → Sheet → Type 0
RunsTight rules t b s [] u = u ≡ s
RunsTight rules t b s (step ∷ steps) u = (is_of rules step ≡ true) × IsLegal t b s step × IsTight t b s step × RunsTight rules t b (narrowed s step) steps u

-- a finite gap is below 10^15 + 100001
abbrev pub GapsAreSmall : Type 0
GapsAreSmall = (t : TaskShape) (b : Tables) (j k : Kind) → InBounds t → FitsTask t b → IsBelow 1000000000100001 (gap t b j k)

-- in a live formed sheet the arrivals fit
abbrev pub LiveArrivalsFit : Type 0
LiveArrivalsFit = (t : TaskShape) (b : Tables) (s : Sheet) → InBounds t → FitsTask t b → IsFormed t s → IsLive s → ArrivalsFit t b s

-- where a step with some value is legal, so is the step with the very value of its row
abbrev pub TightValues : Type 0
TightValues =
    (t : TaskShape) (b : Tables) (s : Sheet) (step : Step) → InBounds t → FitsTask t b → IsFormed t s → IsLegal t b s step →
    (v : Span) × IsTight t b s (with_value step v) × IsLegal t b s (with_value step v)

-- of two steps that are the same but for their values, where both have the very value of the row, the values are the same
abbrev pub OneTightValue : Type 0
OneTightValue =
    (t : TaskShape) (b : Tables) (s : Sheet) (step : Step) (v w : Span) → IsTight t b s (with_value step v) → IsTight t b s (with_value step w) →
    with_value step v ≡ with_value step w

-- steps that have the very values of their rows are legal steps
abbrev pub TightRunsLead : Type 0
TightRunsLead = (rules : List ℕ) (t : TaskShape) (b : Tables) (s u : Sheet) (steps : List Step) → RunsTight rules t b s steps u → Leads rules t b s steps u

-- steps that lead on from where others end are steps from where those begin
abbrev pub RunsAppend : Type 0
RunsAppend =
    (rules : List ℕ) (t : TaskShape) (b : Tables) (s m u : Sheet) (steps more : List Step) →
    Leads rules t b s steps m → Leads rules t b m more u → Leads rules t b s (steps ++ more) u

-- tight runs, one after the other, are a tight run
abbrev pub TightRunsAppend : Type 0
TightRunsAppend =
    (rules : List ℕ) (t : TaskShape) (b : Tables) (s m u : Sheet) (steps more : List Step) →
    RunsTight rules t b s steps m → RunsTight rules t b m more u → RunsTight rules t b s (steps ++ more) u

-- one step more at the end of a run
abbrev pub TightRunsGrow : Type 0
TightRunsGrow =
    (rules : List ℕ) (t : TaskShape) (b : Tables) (s m : Sheet) (steps : List Step) (step : Step) → RunsTight rules t b s steps m →
    is_of rules step ≡ true → IsLegal t b m step → IsTight t b m step → RunsTight rules t b s (steps ++ step ∷ []) (narrowed m step)
