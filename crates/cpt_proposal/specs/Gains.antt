use Rattle.std.specs.Prelude.{◌≡◌, ℕ, ◌<◌, true, false, length, All}
use Rattle.cpt_task.specs.Shape.{TaskShape}
use Rattle.cpt_tables.specs.declared.tables.Tables.{Tables}
use Rattle.cpt_tables.specs.Spans.{◌<ˢ◌, ◌+ˢ◌}
use Rattle.cpt_task.specs.declared.span.Span.{Span}
use Rattle.cpt_sheet.specs.declared.data.Kind.TheVariants.{Act}
use Rattle.cpt_sheet.specs.declared.data.Token.{Token}
use Rattle.cpt_sheet.specs.Roles.{Adds, Clash}
use Rattle.cpt_sheet.specs.Live.{IsOpen}
use Rattle.cpt_task.specs.declared.span.Span.TheVariants.{At}
use Rattle.cpt_sheet.specs.declared.data.Cand.{Cand}
use Rattle.cpt_sheet.specs.declared.data.Cand.TheVariants.{Tok, Out}
use Rattle.cpt_sheet.specs.declared.data.Sheet.{Sheet}
use Rattle.cpt_sheet.specs.View.{lo, hi, before, has_need, cands, span_of, kind_of}
use Rattle.cpt_sheet.specs.Gaps.{gap, arrival, deadline, CanPrecede}
use Rattle.cpt_calculus.specs.Rules.{only, IsToken, IsStep3, IsStep9After, IsStep9Ahead, IsOutsideThreat}

-- rule 1 has a step for x before y
pub record HasStep1 (t : TaskShape) (b : Tables) (s : Sheet) (x y : ℕ) : Type 0 where
  pub order : before s x y ≡ true
  pub later : lo s (Tok y) <ˢ arrival t b s (Tok x) (Tok y)

-- rule 2 has a step for x before y
pub record HasStep2 (t : TaskShape) (b : Tables) (s : Sheet) (x y : ℕ) : Type 0 where
  pub order : before s x y ≡ true
  pub sooner : deadline t b s (Tok x) (Tok y) <ˢ At (hi s (Tok x))

-- rule 3 has a step that posts x before y
pub record HasStep3 (t : TaskShape) (b : Tables) (s : Sheet) (x y : ℕ) : Type 0 where
  pub condition : IsStep3 t b s x y
  pub new : before s x y ≡ false

-- the arrival from the candidate is above the lo of x
abbrev pub IsAbove : TaskShape → Tables → Sheet → ℕ → Cand → Type 0
IsAbove t b s x c = lo s (Tok x) <ˢ arrival t b s c (Tok x)

-- rule 4 has a step for x and p
pub record HasStep4 (t : TaskShape) (b : Tables) (s : Sheet) (x p : ℕ) : Type 0 where
  pub need : has_need s x p ≡ true
  pub later : All (IsAbove t b s x) (cands s x p)

-- rule 6 has a step for x and p, with y as the one token
pub record HasStep6 (s : Sheet) (x p y : ℕ) : Type 0 where
  pub need : has_need s x p ≡ true
  pub one : IsToken (cands s x p) y
  pub new : before s y x ≡ false

-- rule 9 has a step that posts x before d
pub record HasStep9After (t : TaskShape) (b : Tables) (s : Sheet) (x p d : ℕ) : Type 0 where
  pub condition : IsStep9After t b s x p d
  pub new : before s x d ≡ false

-- rule 9 has a step that posts d before the one token
pub record HasStep9Ahead (t : TaskShape) (b : Tables) (s : Sheet) (x p d : ℕ) : Type 0 where
  pub condition : IsStep9Ahead t b s x p d
  pub new : before s d (only (cands s x p)) ≡ false

-- where the token adds p, its arrival at the outside action a is above the moment
abbrev pub IsTokenAbove : TaskShape → Tables → ℕ → ℕ → Span → Token → Type 0
IsTokenAbove t b a p v z = Adds t z.kind p → v <ˢ (z.span.lo +ˢ gap t b z.kind (Act a))

-- where the outside action o is live and adds p, its arrival at the outside action a is above the moment
abbrev pub IsOutAbove : TaskShape → Tables → Sheet → ℕ → ℕ → Span → ℕ → Type 0
IsOutAbove t b s a p v o = Adds t (Act o) p → IsOpen (span_of s (Out o)) → v <ˢ arrival t b s (Out o) (Out a)

-- rule 10 has a step for a and p
pub record HasStep10 (t : TaskShape) (b : Tables) (s : Sheet) (a p : ℕ) : Type 0 where
  pub tokens : All (IsTokenAbove t b a p (lo s (Out a))) s.tokens
  pub outs : (o : ℕ) → o < length t.actions → IsOutAbove t b s a p (lo s (Out a)) o

-- rule 11 has a step that raises the lo of Out a
pub record HasStep11After (t : TaskShape) (b : Tables) (s : Sheet) (x p a y : ℕ) : Type 0 where
  pub threat : IsOutsideThreat t s x p a y
  pub late : ¬ (CanPrecede t b s (Out a) (Tok y))
  pub later : lo s (Out a) <ˢ arrival t b s (Tok x) (Out a)

-- rule 11 has a step that lowers the hi of Out a
pub record HasStep11Ahead (t : TaskShape) (b : Tables) (s : Sheet) (x p a y : ℕ) : Type 0 where
  pub threat : IsOutsideThreat t s x p a y
  pub late : ¬ (CanPrecede t b s (Tok x) (Out a))
  pub sooner : deadline t b s (Out a) (Tok y) <ˢ At (hi s (Out a))

-- rule 12 has a step that raises the lo of Out a
pub record HasStep12After (t : TaskShape) (b : Tables) (s : Sheet) (x a : ℕ) : Type 0 where
  pub clash : Clash t (kind_of s (Tok x)) (Act a)
  pub late : ¬ (CanPrecede t b s (Out a) (Tok x))
  pub later : lo s (Out a) <ˢ arrival t b s (Tok x) (Out a)

-- rule 12 has a step that lowers the hi of Out a
pub record HasStep12Ahead (t : TaskShape) (b : Tables) (s : Sheet) (x a : ℕ) : Type 0 where
  pub clash : Clash t (kind_of s (Tok x)) (Act a)
  pub late : ¬ (CanPrecede t b s (Tok x) (Out a))
  pub sooner : deadline t b s (Out a) (Tok x) <ˢ At (hi s (Out a))

-- rule 12 has no step for x and a
pub record IsApart (t : TaskShape) (b : Tables) (s : Sheet) (x a : ℕ) : Type 0 where
  pub after : HasStep12After t b s x a → ⊥
  pub ahead : HasStep12Ahead t b s x a → ⊥
