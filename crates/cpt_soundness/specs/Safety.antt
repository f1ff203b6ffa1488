use Rattle.std.specs.Prelude.{ℕ, ◌≤◌, List}
use Rattle.cpt_task.specs.declared.plan.Occ.{Occ}
use Rattle.cpt_task.specs.declared.span.Span.TheVariants.{At}
use Rattle.cpt_task.specs.Shape.{TaskShape}
use Rattle.cpt_tables.specs.Spans.{◌≤ˢ◌}
use Rattle.cpt_sheet.specs.declared.data.Sheet.{Sheet}
use Rattle.cpt_sheet.specs.declared.data.Change.{Change}
use Rattle.cpt_sheet.specs.declared.data.Change.TheVariants.{Raise, Lower, Take, Post}
use Rattle.cpt_calculus.specs.Plans.{Who, begins, ends, who, StandsFor, Supplies}

-- a change that loses no way to admit the plan: none for whom the candidate stands begins outside what is left, none
-- for whom it stands supplies the need, or the two that are ordered are apart
abbrev pub Safe : TaskShape → List Occ → (ℕ → ℕ) → Sheet → Change → Type 0
Safe t plan f s (Raise c v) = (w : Who) → StandsFor f plan s c w → v ≤ˢ At (begins t plan w)
Safe t plan f s (Lower c v) = (w : Who) → StandsFor f plan s c w → At (begins t plan w) ≤ˢ v
Safe t plan f s (Take x p c) = (w : Who) → StandsFor f plan s c w → Supplies t plan p (begins t plan (who f s x)) w → ⊥
Safe t plan f s (Post x y) = ends t plan (who f s x) ≤ begins t plan (who f s y)
