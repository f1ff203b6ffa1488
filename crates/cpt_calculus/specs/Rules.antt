use Rattle.std.specs.Prelude.{◌≡◌, ◌≢◌, ℕ, ◌<◌, ◌==◌, Bool, true, false, List, [], ◌∷◌, length, All, Contains}
use Rattle.std.specs.List.{list_any}
use Rattle.cpt_task.specs.declared.span.Span.{Span}
use Rattle.cpt_task.specs.declared.span.Span.TheVariants.{At}
use Rattle.cpt_task.specs.Shape.{TaskShape}
use Rattle.cpt_tables.specs.declared.tables.Tables.{Tables}
use Rattle.cpt_tables.specs.Spans.{◌≤ˢ◌, ◌<ˢ◌, ◌+ˢ◌, IsBelow}
use Rattle.cpt_tables.specs.Admissible.{nth_action}
use Rattle.cpt_sheet.specs.declared.data.Cand.{Cand}
use Rattle.cpt_sheet.specs.declared.data.Cand.TheVariants.{Tok, Out}
use Rattle.cpt_sheet.specs.declared.data.Kind.TheVariants.{Act}
use Rattle.cpt_sheet.specs.declared.data.Sheet.{Sheet}
use Rattle.cpt_sheet.specs.declared.data.Token.{Token}
use Rattle.cpt_sheet.specs.declared.data.Step.{Step}
use Rattle.cpt_sheet.specs.declared.data.Step.TheVariants.{R1, R2, R3, R4, R5, R6, R7, R8, R9After, R9Ahead, R10, R11After, R11Ahead, R12After, R12Ahead, R13}
use Rattle.cpt_sheet.specs.declared.data.Change.{Change}
use Rattle.cpt_sheet.specs.declared.data.Change.TheVariants.{Raise, Lower, Take, Post}
use Rattle.cpt_sheet.specs.Roles.{Adds, Deletes, Clash}
use Rattle.cpt_sheet.specs.View.{lo, hi, span_of, kind_of, same, has, has_need, cands, before}
use Rattle.cpt_sheet.specs.Live.{IsLive, IsOpen, IsShut}
use Rattle.cpt_sheet.specs.Gaps.{gap, arrival, deadline, CanPrecede, IsImpossibleBeside}
use Rattle.cpt_sheet.specs.Edits.{changed}

-- the list is this one token
abbrev pub IsToken : List Cand → ℕ → Type 0
IsToken cs y = cs ≡ Tok y ∷ []

-- the number of the first token of a list that begins with one
abbrev pub only : List Cand → ℕ
only [] = 0
only (Tok y ∷ cs) = y
only (Out a ∷ cs) = 0

-- a new first moment for a token: a finite one is below 4 * 10^15
abbrev pub IsTokenMoment : Span → Type 0
IsTokenMoment v = IsBelow 4000000000000000 v

-- a new first moment for an outside action: a finite one is below 2 * 10^15
abbrev pub IsOutsideMoment : Span → Type 0
IsOutsideMoment v = IsBelow 2000000000000000 v

-- rule 1: the order x before y stands, and v is no later than the arrival from x at y
pub record IsStep1 (t : TaskShape) (b : Tables) (s : Sheet) (x y : ℕ) (v : Span) : Type 0 where
  pub order : before s x y ≡ true
  pub limit : v ≤ˢ arrival t b s (Tok x) (Tok y)
  pub moment : IsTokenMoment v

-- rule 2: the order x before y stands, and v is no earlier than the deadline of x before y
pub record IsStep2 (t : TaskShape) (b : Tables) (s : Sheet) (x y : ℕ) (v : Span) : Type 0 where
  pub order : before s x y ≡ true
  pub limit : deadline t b s (Tok x) (Tok y) ≤ˢ v

-- rule 3: x and y are different action tokens that interfere, and y cannot precede x
pub record IsStep3 (t : TaskShape) (b : Tables) (s : Sheet) (x y : ℕ) : Type 0 where
  pub different : x ≢ y
  pub clash : Clash t (kind_of s (Tok x)) (kind_of s (Tok y))
  pub late : ¬ (CanPrecede t b s (Tok y) (Tok x))

-- rule 4: v is no later than the arrival from each candidate for p at x
pub record IsStep4 (t : TaskShape) (b : Tables) (s : Sheet) (x p : ℕ) (v : Span) : Type 0 where
  pub need : has_need s x p ≡ true
  pub limit : All (λ c. v ≤ˢ arrival t b s c (Tok x)) (cands s x p)
  pub moment : IsTokenMoment v

-- c is a candidate of x for p
pub record IsListed (s : Sheet) (x p : ℕ) (c : Cand) : Type 0 where
  pub need : has_need s x p ≡ true
  pub listed : has c (cands s x p) ≡ true

-- q is another precondition of x
pub record IsOtherNeed (s : Sheet) (x p q : ℕ) : Type 0 where
  pub need : has_need s x q ≡ true
  pub different : q ≢ p

-- rule 5: c is a candidate for p, and cannot precede x
pub record IsStep5 (t : TaskShape) (b : Tables) (s : Sheet) (x p : ℕ) (c : Cand) : Type 0 where
  pub listed : IsListed s x p c
  pub late : ¬ (CanPrecede t b s c (Tok x))

-- rule 6: the list is one token
pub record IsStep6 (s : Sheet) (x p : ℕ) : Type 0 where
  pub need : has_need s x p ≡ true
  pub one : (y : ℕ) × IsToken (cands s x p) y

-- rule 7: the outside action is a candidate, and has no moment left
pub record IsStep7 (s : Sheet) (x p a : ℕ) : Type 0 where
  pub listed : IsListed s x p (Out a)
  pub shut : IsShut (span_of s (Out a))

-- rule 8: c is a candidate for p; d, which is neither x nor c, deletes p, and can come neither before c nor after x
pub record IsStep8 (t : TaskShape) (b : Tables) (s : Sheet) (x p : ℕ) (c : Cand) (d : ℕ) : Type 0 where
  pub listed : IsListed s x p c
  pub deletes : Deletes t (kind_of s (Tok d)) p
  pub other : d ≢ x
  pub different : same (Tok d) c ≡ false
  pub not_ahead : ¬ (CanPrecede t b s (Tok d) c)
  pub not_after : ¬ (CanPrecede t b s (Tok x) (Tok d))

-- the list for p is one token y, and d, which is neither x nor y, deletes p
pub record IsThreatOf (t : TaskShape) (s : Sheet) (x p d y : ℕ) : Type 0 where
  pub need : has_need s x p ≡ true
  pub one : IsToken (cands s x p) y
  pub deletes : Deletes t (kind_of s (Tok d)) p
  pub other : d ≢ x
  pub different : d ≢ y

-- rule 9, after: d threatens, and cannot precede y
abbrev pub IsStep9After : TaskShape → Tables → Sheet → ℕ → ℕ → ℕ → Type 0
IsStep9After t b s x p d = (y : ℕ) × IsThreatOf t s x p d y × ¬ (CanPrecede t b s (Tok d) (Tok y))

-- rule 9, ahead: d threatens, and x cannot precede it
abbrev pub IsStep9Ahead : TaskShape → Tables → Sheet → ℕ → ℕ → ℕ → Type 0
IsStep9Ahead t b s x p d = (y : ℕ) × IsThreatOf t s x p d y × ¬ (CanPrecede t b s (Tok x) (Tok d))

-- where the token adds p, v is no later than the arrival from it at the outside action a
abbrev pub IsBeforeToken : TaskShape → Tables → ℕ → ℕ → Span → Token → Type 0
IsBeforeToken t b a p v z = Adds t z.kind p → v ≤ˢ (z.span.lo +ˢ gap t b z.kind (Act a))

-- v is no later than the arrival at the outside action a from each token that adds p
abbrev pub IsBeforeTokens : TaskShape → Tables → Sheet → ℕ → ℕ → Span → Type 0
IsBeforeTokens t b s a p v = All (IsBeforeToken t b a p v) s.tokens

-- where the outside action o is live and adds p, v is no later than the arrival from it at the outside action a
abbrev pub IsBeforeOut : TaskShape → Tables → Sheet → ℕ → ℕ → Span → ℕ → Type 0
IsBeforeOut t b s a p v o = Adds t (Act o) p → IsOpen (span_of s (Out o)) → v ≤ˢ arrival t b s (Out o) (Out a)

-- v is no later than the arrival at the outside action a from each live outside action that adds p, itself included
abbrev pub IsBeforeOuts : TaskShape → Tables → Sheet → ℕ → ℕ → Span → Type 0
IsBeforeOuts t b s a p v = (o : ℕ) → o < length t.actions → IsBeforeOut t b s a p v o

-- rule 10: p is a precondition of a, and v is no later than the arrival at Out a from each that adds p, so it may be
-- Never where there is none
pub record IsStep10 (t : TaskShape) (b : Tables) (s : Sheet) (a p : ℕ) (v : Span) : Type 0 where
  pub need : Contains (nth_action t a).pre p
  pub tokens : IsBeforeTokens t b s a p v
  pub outs : IsBeforeOuts t b s a p v
  pub moment : IsOutsideMoment v

-- the list for p is one token y, and the action a deletes p
pub record IsOutsideThreat (t : TaskShape) (s : Sheet) (x p a y : ℕ) : Type 0 where
  pub need : has_need s x p ≡ true
  pub one : IsToken (cands s x p) y
  pub deletes : Deletes t (Act a) p

-- v is no later than the arrival from x at Out a
pub record ComesAfter (t : TaskShape) (b : Tables) (s : Sheet) (x a : ℕ) (v : Span) : Type 0 where
  pub limit : v ≤ˢ arrival t b s (Tok x) (Out a)
  pub moment : IsOutsideMoment v

-- v is no earlier than the deadline of Out a before y
abbrev pub ComesAhead : TaskShape → Tables → Sheet → ℕ → ℕ → Span → Type 0
ComesAhead t b s a y v = deadline t b s (Out a) (Tok y) ≤ˢ v

-- rule 11, after: a deletes what y alone adds for x, Out a cannot precede y, and comes after x
abbrev pub IsStep11After : TaskShape → Tables → Sheet → ℕ → ℕ → ℕ → Span → Type 0
IsStep11After t b s x p a v = (y : ℕ) × IsOutsideThreat t s x p a y × ¬ (CanPrecede t b s (Out a) (Tok y)) × ComesAfter t b s x a v

-- rule 11, ahead: a deletes what y alone adds for x, x cannot precede Out a, and Out a comes before y
abbrev pub IsStep11Ahead : TaskShape → Tables → Sheet → ℕ → ℕ → ℕ → Span → Type 0
IsStep11Ahead t b s x p a v = (y : ℕ) × IsOutsideThreat t s x p a y × ¬ (CanPrecede t b s (Tok x) (Out a)) × ComesAhead t b s a y v

-- rule 12, after: x is an action token that interferes with a, Out a cannot precede x, and comes after it
pub record IsStep12After (t : TaskShape) (b : Tables) (s : Sheet) (x a : ℕ) (v : Span) : Type 0 where
  pub clash : Clash t (kind_of s (Tok x)) (Act a)
  pub late : ¬ (CanPrecede t b s (Out a) (Tok x))
  pub after : ComesAfter t b s x a v

-- rule 12, ahead: x is an action token that interferes with a, x cannot precede Out a, which comes before it
pub record IsStep12Ahead (t : TaskShape) (b : Tables) (s : Sheet) (x a : ℕ) (v : Span) : Type 0 where
  pub clash : Clash t (kind_of s (Tok x)) (Act a)
  pub late : ¬ (CanPrecede t b s (Tok x) (Out a))
  pub ahead : ComesAhead t b s a x v

-- each candidate of x for q is impossible beside c
pub record IsNoneBeside (t : TaskShape) (b : Tables) (s : Sheet) (x p : ℕ) (c : Cand) (q : ℕ) : Type 0 where
  pub none : All (IsImpossibleBeside t b s p q c) (cands s x q)

-- rule 13: c is a candidate for p, and each candidate for another precondition q is impossible beside it
pub record IsStep13 (t : TaskShape) (b : Tables) (s : Sheet) (x p : ℕ) (c : Cand) (q : ℕ) : Type 0 where
  pub listed : IsListed s x p c
  pub second : IsOtherNeed s x p q
  pub none : IsNoneBeside t b s x p c q

-- the condition of a step, and the limit of its value
abbrev pub Allowed : TaskShape → Tables → Sheet → Step → Type 0
Allowed t b s (R1 x y v) = IsStep1 t b s x y v
Allowed t b s (R2 x y v) = IsStep2 t b s x y v
Allowed t b s (R3 x y) = IsStep3 t b s x y
Allowed t b s (R4 x p v) = IsStep4 t b s x p v
Allowed t b s (R5 x p c) = IsStep5 t b s x p c
Allowed t b s (R6 x p) = IsStep6 s x p
Allowed t b s (R7 x p a) = IsStep7 s x p a
Allowed t b s (R8 x p c d) = IsStep8 t b s x p c d
Allowed t b s (R9After x p d) = IsStep9After t b s x p d
Allowed t b s (R9Ahead x p d) = IsStep9Ahead t b s x p d
Allowed t b s (R10 a p v) = IsStep10 t b s a p v
Allowed t b s (R11After x p a v) = IsStep11After t b s x p a v
Allowed t b s (R11Ahead x p a v) = IsStep11Ahead t b s x p a v
Allowed t b s (R12After x a v) = IsStep12After t b s x a v
Allowed t b s (R12Ahead x a v) = IsStep12Ahead t b s x a v
Allowed t b s (R13 x p c q) = IsStep13 t b s x p c q

-- what a step changes
abbrev pub change_of : Sheet → Step → Change
change_of s (R1 x y v) = Raise (Tok y) v
change_of s (R2 x y v) = Lower (Tok x) v
change_of s (R3 x y) = Post x y
change_of s (R4 x p v) = Raise (Tok x) v
change_of s (R5 x p c) = Take x p c
change_of s (R6 x p) = Post (only (cands s x p)) x
change_of s (R7 x p a) = Take x p (Out a)
change_of s (R8 x p c d) = Take x p c
change_of s (R9After x p d) = Post x d
change_of s (R9Ahead x p d) = Post d (only (cands s x p))
change_of s (R10 a p v) = Raise (Out a) v
change_of s (R11After x p a v) = Raise (Out a) v
change_of s (R11Ahead x p a v) = Lower (Out a) v
change_of s (R12After x a v) = Raise (Out a) v
change_of s (R12Ahead x a v) = Lower (Out a) v
change_of s (R13 x p c q) = Take x p c

-- the change narrows the sheet
abbrev pub Moves : Sheet → Change → Type 0
Moves s (Raise c v) = lo s c <ˢ v
Moves s (Lower c v) = v <ˢ At (hi s c)
Moves s (Take x p c) = has c (cands s x p) ≡ true
Moves s (Post x y) = before s x y ≡ false

-- the sheet is not dead, the condition of the step holds with its limit, and the sheet changes
pub record IsLegal (t : TaskShape) (b : Tables) (s : Sheet) (step : Step) : Type 0 where
  pub live : IsLive s
  pub allowed : Allowed t b s step
  pub moves : Moves s (change_of s step)

-- the sheet after a step
abbrev pub narrowed : Sheet → Step → Sheet
narrowed s step = changed s (change_of s step)

-- the number of the rule of a step
abbrev pub rule_of : Step → ℕ
rule_of (R1 x y v) = 1
rule_of (R2 x y v) = 2
rule_of (R3 x y) = 3
rule_of (R4 x p v) = 4
rule_of (R5 x p c) = 5
rule_of (R6 x p) = 6
rule_of (R7 x p a) = 7
rule_of (R8 x p c d) = 8
rule_of (R9After x p d) = 9
rule_of (R9Ahead x p d) = 9
rule_of (R10 a p v) = 10
rule_of (R11After x p a v) = 11
rule_of (R11Ahead x p a v) = 11
rule_of (R12After x a v) = 12
rule_of (R12Ahead x a v) = 12
rule_of (R13 x p c q) = 13

-- the step is of one of these rules
abbrev pub is_of : List ℕ → Step → Bool
is_of rules step = list_any (λ n. n == rule_of step) rules

-- the rules in use
abbrev pub all_rules : List ℕ
all_rules = 1 ∷ 2 ∷ 3 ∷ 4 ∷ 5 ∷ 6 ∷ 7 ∷ 8 ∷ 9 ∷ 10 ∷ 11 ∷ 12 ∷ 13 ∷ []
