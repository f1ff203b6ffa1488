use Rattle.std.specs.Prelude.{◌≡◌, ℕ, Bool, true, if◌then◌else◌, List, [], ◌∷◌}
use Rattle.cpt_task.specs.declared.span.Span.{Span}
use Rattle.cpt_task.specs.declared.span.Span.TheVariants.{Never}
use Rattle.cpt_task.specs.Shape.{TaskShape}
use Rattle.cpt_task.specs.Timeline.{is_in}
use Rattle.cpt_tables.specs.declared.tables.Tables.{Tables}
use Rattle.cpt_tables.specs.Admissible.{nth_action}
use Rattle.cpt_tables.specs.Spans.{◌≤ˢ◌, ◌<ˢ◌}
use Rattle.cpt_sheet.specs.declared.data.Cand.{Cand}
use Rattle.cpt_sheet.specs.declared.data.Cand.TheVariants.{Tok, Out}
use Rattle.cpt_sheet.specs.declared.data.Sheet.{Sheet}
use Rattle.cpt_sheet.specs.Live.{is_open}
use Rattle.cpt_sheet.specs.View.{lo, span_of, has, cands}
use Rattle.cpt_sheet.specs.Gaps.{arrival, IsImpossibleBeside}
use Rattle.cpt_calculus.specs.Rules.{IsBeforeTokens, IsBeforeOuts, IsStep13}
use Rattle.cpt_proposal.specs.Gains.{HasStep11After, HasStep11Ahead}

-- the rules on outside actions
abbrev pub outside_rules : List ℕ
outside_rules = 10 ∷ 11 ∷ 12 ∷ 13 ∷ []

-- rule 11 has no step at Out a for x and p
pub record IsPeaceful (t : TaskShape) (b : Tables) (s : Sheet) (a p x : ℕ) : Type 0 where
  pub after : (y : ℕ) → HasStep11After t b s x p a y → ⊥
  pub ahead : (y : ℕ) → HasStep11Ahead t b s x p a y → ⊥

-- the same for any token
pub record IsPeacefulFor (t : TaskShape) (b : Tables) (s : Sheet) (a p : ℕ) : Type 0 where
  pub each : (x : ℕ) → IsPeaceful t b s a p x

-- a source of outside actions: a token, or an outside action with a moment
abbrev pub is_source : Sheet → Cand → Bool
is_source s (Tok y) = true
is_source s (Out o) = is_open (span_of s (Out o))

-- when the source lets Out a begin; Never where it is none
abbrev pub source_arrival : TaskShape → Tables → Sheet → ℕ → Cand → Span
source_arrival t b s a c = if is_source s c then arrival t b s c (Out a) else Never

-- the source reaches Out a by its lo
pub record ReachesOut (t : TaskShape) (b : Tables) (s : Sheet) (a : ℕ) (c : Cand) : Type 0 where
  pub source : is_source s c ≡ true
  pub in_time : arrival t b s c (Out a) ≤ˢ lo s (Out a)

-- rule 10 has no step at Out a for p
pub record IsReached (t : TaskShape) (b : Tables) (s : Sheet) (a p : ℕ) : Type 0 where
  pub none : (v : Span) → IsBeforeTokens t b s a p v → IsBeforeOuts t b s a p v → lo s (Out a) <ˢ v → ⊥

-- a candidate for q is possible beside c for p
pub record HasPartner (t : TaskShape) (b : Tables) (s : Sheet) (x p q : ℕ) (c d : Cand) : Type 0 where
  pub listed : has d (cands s x q) ≡ true
  pub possible : IsImpossibleBeside t b s p q c d → ⊥

-- it is no candidate for q, or impossible beside c for p
pub record IsNoPartner (t : TaskShape) (b : Tables) (s : Sheet) (x p q : ℕ) (c d : Cand) : Type 0 where
  pub beside : has d (cands s x q) ≡ true → IsImpossibleBeside t b s p q c d

-- rule 13 does not drop c for p because of q
pub record IsMatched (t : TaskShape) (b : Tables) (s : Sheet) (x p : ℕ) (c : Cand) (q : ℕ) : Type 0 where
  pub none : IsStep13 t b s x p c q → ⊥

-- the same because of any
pub record IsMatchedEach (t : TaskShape) (b : Tables) (s : Sheet) (x p : ℕ) (c : Cand) : Type 0 where
  pub each : (q : ℕ) → IsStep13 t b s x p c q → ⊥

-- the same for each candidate
pub record AreMatched (t : TaskShape) (b : Tables) (s : Sheet) (x p : ℕ) : Type 0 where
  pub all : (c : Cand) (q : ℕ) → IsStep13 t b s x p c q → ⊥

-- the action deletes the atom
abbrev pub IsErased : TaskShape → ℕ → ℕ → Type 0
IsErased t a p = is_in p (nth_action t a).dele ≡ true

-- the action needs the atom
abbrev pub IsNeeded : TaskShape → ℕ → ℕ → Type 0
IsNeeded t a p = is_in p (nth_action t a).pre ≡ true
