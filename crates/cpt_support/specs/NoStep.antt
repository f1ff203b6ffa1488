use Rattle.std.specs.Prelude.{◌≡◌, ℕ, ◌<◌, slice_index_or, if◌then◌else◌, List, [], ◌∷◌}
use Rattle.cpt_task.specs.declared.span.Span.{Span}
use Rattle.cpt_task.specs.declared.span.Span.TheVariants.{Never}
use Rattle.cpt_task.specs.Shape.{TaskShape}
use Rattle.cpt_tables.specs.declared.tables.Tables.{Tables}
use Rattle.cpt_tables.specs.Spans.{IsBelow}
use Rattle.cpt_sheet.specs.declared.data.Cand.{Cand}
use Rattle.cpt_sheet.specs.declared.data.Cand.TheVariants.{Tok, Out}
use Rattle.cpt_sheet.specs.declared.data.Sheet.{Sheet}
use Rattle.cpt_sheet.specs.View.{has, cands}
use Rattle.cpt_sheet.specs.Gaps.{arrival}
use Rattle.cpt_calculus.specs.Rules.{IsStep5, IsStep7}
use Rattle.cpt_proposal.specs.Least.{IsLeast}
use Rattle.cpt_proposal.specs.Gains.{HasStep4, HasStep6}

-- the rules on candidate lists
abbrev pub support_rules : List ℕ
support_rules = 4 ∷ 5 ∷ 6 ∷ 7 ∷ []

-- rule 6 posts no order of y before one that needs p
pub record PostsNone (s : Sheet) (y p : ℕ) : Type 0 where
  pub none : (x : ℕ) → HasStep6 s x p y → ⊥

-- the rules 5 and 7 do not drop the candidate
pub record IsKept (t : TaskShape) (b : Tables) (s : Sheet) (x p : ℕ) (c : Cand) : Type 0 where
  pub step5 : IsStep5 t b s x p c → ⊥
  pub step7 : (a : ℕ) → c ≡ Out a → IsStep7 s x p a → ⊥

-- the rules 4, 5 and 7 have no step for x and p
pub record IsSupplied (t : TaskShape) (b : Tables) (s : Sheet) (x p : ℕ) : Type 0 where
  pub kept : (c : Cand) → IsKept t b s x p c
  pub reached : HasStep4 t b s x p → ⊥

-- when the candidate lets x begin; Never where it is none
abbrev pub listed_arrival : TaskShape → Tables → Sheet → ℕ → ℕ → Cand → Span
listed_arrival t b s x p c = if has c (cands s x p) then arrival t b s c (Tok x) else Never

-- what a candidate that is kept gives
pub record IsPassed (t : TaskShape) (b : Tables) (s : Sheet) (x p : ℕ) (c : Cand) (v : Span) : Type 0 where
  pub value : v ≡ listed_arrival t b s x p c
  pub small : IsBelow 4000000000000000 v
  pub kept : IsKept t b s x p c

-- the first i of the list are kept, and v is the least of what they give
pub record IsPassedTo (t : TaskShape) (b : Tables) (s : Sheet) (x p : ℕ) (l : List Cand) (i : ℕ) (v : Span) : Type 0 where
  pub least : IsLeast 4000000000000000 (listed_arrival t b s x p) l i v
  pub kept : (k : ℕ) (e : Cand) → k < i → IsKept t b s x p (slice_index_or l k e)
