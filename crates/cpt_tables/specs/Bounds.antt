use Rattle.std.specs.Prelude.{ℕ, ◌≤◌, List, Contains}
use Rattle.cpt_task.specs.declared.span.Span.TheVariants.{At}
use Rattle.cpt_task.specs.declared.plan.Occ.{Occ}
use Rattle.cpt_task.specs.Shape.{TaskShape, InBounds}
use Rattle.cpt_task.specs.Timeline.{IsValid, HoldsThen, end_of}
use Rattle.cpt_tables.specs.Spans.{◌≤ˢ◌, ◌+ˢ◌}
use Rattle.cpt_tables.specs.Shapes.{PairShape, DistShape, pair_at, dist_at}
use Rattle.cpt_tables.specs.Admissible.{IsAdmissiblePairs, IsAdmissibleDists}

-- what a pair table promises of plans: each moment of each valid plan at which two atoms hold is at least the
-- value of the two
abbrev pub BoundsPairs : TaskShape → PairShape → Type 0
BoundsPairs t h = (plan : List Occ) → IsValid t plan → (time p q : ℕ) → HoldsThen t plan time p → HoldsThen t plan time q → pair_at h p q ≤ˢ At time

-- what a distance table promises of plans: each moment of each valid plan at which an atom holds, and which is not
-- before an end of an action, is at least the distance of the action to the atom after that end
abbrev pub BoundsDists : TaskShape → DistShape → Type 0
BoundsDists t d =
    (plan : List Occ) → IsValid t plan → (o : Occ) → Contains plan o → (time p : ℕ) → end_of t o ≤ time → HoldsThen t plan time p → (At (end_of t o) +ˢ dist_at d o.act p) ≤ˢ At time

-- the promises of admissible tables
abbrev pub AdmissiblePairsBound : Type 0
AdmissiblePairsBound = (t : TaskShape) (h : PairShape) → InBounds t → IsAdmissiblePairs t h → BoundsPairs t h

-- the promises of admissible tables
abbrev pub AdmissibleDistsBound : Type 0
AdmissibleDistsBound = (t : TaskShape) (h : PairShape) (d : DistShape) → InBounds t → IsAdmissiblePairs t h → IsAdmissibleDists t h d → BoundsDists t d
