use Rattle.std.specs.Prelude.{◌≡◌, ℕ, ◌<◌, true, Option, Some, None, [], ◌∷◌}
use Rattle.cpt_task.specs.declared.span.Span.{Span}
use Rattle.cpt_task.specs.declared.span.Span.TheVariants.{At}
use Rattle.cpt_task.specs.Shape.{TaskShape}
use Rattle.cpt_tables.specs.declared.tables.Tables.{Tables}
use Rattle.cpt_tables.specs.Spans.{◌≤ˢ◌, ◌<ˢ◌}
use Rattle.cpt_sheet.specs.declared.data.Cand.TheVariants.{Tok}
use Rattle.cpt_sheet.specs.declared.data.Sheet.{Sheet}
use Rattle.cpt_sheet.specs.declared.data.Step.{Step}
use Rattle.cpt_sheet.specs.View.{lo, hi, before}
use Rattle.cpt_sheet.specs.Gaps.{arrival, deadline}
use Rattle.cpt_proposal.specs.Gains.{HasStep1, HasStep2}
use Rattle.cpt_steps.specs.Tight.{ArrivalsFit}
use Rattle.cpt_sheet.specs.Live.{IsLive}
use Rattle.cpt_store.specs.Proposals.{IsProposed}

-- the arrival from x at y is above the moment
pub record IsGain1 (t : TaskShape) (b : Tables) (s : Sheet) (x y : ℕ) (top v : Span) : Type 0 where
  pub order : before s x y ≡ true
  pub value : v ≡ arrival t b s (Tok x) (Tok y)
  pub above : top <ˢ v
  pub fit : IsLive s → ArrivalsFit t b s

-- it is not
pub record IsNoGain1 (t : TaskShape) (b : Tables) (s : Sheet) (x y : ℕ) (top : Span) : Type 0 where
  pub none : before s x y ≡ true → top <ˢ arrival t b s (Tok x) (Tok y) → ⊥

-- the best step of rule 1 from the first i tokens, and the moment that it raises y to
abbrev pub IsBest1 : TaskShape → Tables → Sheet → ℕ → ℕ → Span → Option Step → Type 0
IsBest1 t b s y i top None = (top ≡ lo s (Tok y)) × ((k : ℕ) → k < i → HasStep1 t b s k y → ⊥)
IsBest1 t b s y i top (Some step) = IsProposed (1 ∷ []) t b s (Tok y) step × (lo s (Tok y) ≤ˢ top)

-- the deadline of x before y is below the moment
pub record IsGain2 (t : TaskShape) (b : Tables) (s : Sheet) (x y : ℕ) (top v : Span) : Type 0 where
  pub order : before s x y ≡ true
  pub value : v ≡ deadline t b s (Tok x) (Tok y)
  pub below : v <ˢ top

-- it is not
pub record IsNoGain2 (t : TaskShape) (b : Tables) (s : Sheet) (x y : ℕ) (top : Span) : Type 0 where
  pub none : before s x y ≡ true → deadline t b s (Tok x) (Tok y) <ˢ top → ⊥

-- the best step of rule 2 from the first i tokens, and the moment that it lowers x to
abbrev pub IsBest2 : TaskShape → Tables → Sheet → ℕ → ℕ → Span → Option Step → Type 0
IsBest2 t b s x i top None = (top ≡ At (hi s (Tok x))) × ((k : ℕ) → k < i → HasStep2 t b s x k → ⊥)
IsBest2 t b s x i top (Some step) = IsProposed (2 ∷ []) t b s (Tok x) step × (top ≤ˢ At (hi s (Tok x)))
