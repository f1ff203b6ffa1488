use Rattle.std.specs.Prelude.{◌≡◌, ◌≢◌, ℕ, ◌<◌, ◌≤◌, ◌⊎◌, List, length, Contains}
use Rattle.cpt_task.specs.declared.plan.Occ.{Occ}
use Rattle.cpt_task.specs.declared.span.Span.TheVariants.{At}
use Rattle.cpt_task.specs.Shape.{TaskShape, InBounds}
use Rattle.cpt_task.specs.Timeline.{IsValid, action_of, occurrence_at, makespan}
use Rattle.cpt_tables.specs.declared.tables.Tables.{Tables}
use Rattle.cpt_tables.specs.Spans.{◌≤ˢ◌, ◌+ˢ◌}
use Rattle.cpt_tables.specs.Shapes.{set_span_of}
use Rattle.cpt_tables.specs.Admissible.{IsAdmissiblePairs, IsAdmissibleDists}
use Rattle.cpt_sheet.specs.declared.data.Kind.{Kind}
use Rattle.cpt_sheet.specs.declared.data.Kind.TheVariants.{Start, End, Act}
use Rattle.cpt_sheet.specs.Gaps.{gap}
use Rattle.cpt_sheet.specs.Roles.{needs_of}
use Rattle.cpt_calculus.specs.Plans.{Who, begins, ends, Supplies}
use Rattle.cpt_calculus.specs.Plans.Who.{begin, finish, place}

-- admissible tables of a task whose numbers are in range
pub record IsAdmissible (t : TaskShape) (b : Tables) : Type 0 where
  pub bounds : InBounds t
  pub pairs : IsAdmissiblePairs t b.pairs
  pub dists : IsAdmissibleDists t b.pairs b.dists

-- what it is that acts
abbrev pub kind_who : List Occ → Who → Kind
kind_who plan begin = Start
kind_who plan finish = End
kind_who plan (place i) = Act (occurrence_at plan i).act

-- a place of the plan, the start or the end
abbrev pub IsWithin : List Occ → Who → Type 0
IsWithin plan begin = Unit {0}
IsWithin plan finish = Unit {0}
IsWithin plan (place i) = i < length plan

-- two that differ, of which the first, where it is the end, is not followed by the start, and ends before the second begins
pub record IsAhead (t : TaskShape) (plan : List Occ) (v w : Who) : Type 0 where
  pub different : v ≢ w
  pub forward : ¬ ((v ≡ finish) × (w ≡ begin))
  pub first : ends t plan v ≤ begins t plan w

-- who ends before another begins leaves the gap of the tables between their beginnings
abbrev pub KeepsGaps : TaskShape → Tables → List Occ → Type 0
KeepsGaps t b plan =
    (v w : Who) → IsWithin plan v → IsWithin plan w → IsAhead t plan v w →
    (At (begins t plan v) +ˢ gap t b (kind_who plan v) (kind_who plan w)) ≤ˢ At (begins t plan w)

-- over admissible tables every valid plan keeps the gaps
abbrev pub GapsKept : Type 0
GapsKept = (t : TaskShape) (b : Tables) (plan : List Occ) → IsAdmissible t b → IsValid t plan → KeepsGaps t b plan

-- Where w supplies an atom that u needs, an occurrence that deletes it, and is neither of the two, ends before w begins
-- or begins after u ends.
abbrev pub DeletersKeepAway : Type 0
DeletersKeepAway =
    (t : TaskShape) (plan : List Occ) (d p : ℕ) (w u : Who) → InBounds t → IsValid t plan → d < length plan → IsWithin plan u →
    Contains (action_of t (occurrence_at plan d)).dele p → Contains (needs_of t (kind_who plan u)) p → Supplies t plan p (begins t plan u) w →
    place d ≢ w → place d ≢ u → IsAhead t plan (place d) w ⊎ IsAhead t plan u (place d)

-- over admissible tables every valid plan has at least the makespan at which the goal can hold: there is none where
-- that is Never
abbrev pub GoalBounds : Type 0
GoalBounds = (t : TaskShape) (b : Tables) (plan : List Occ) → IsAdmissible t b → IsValid t plan → set_span_of b.pairs t.goal ≤ˢ At (makespan t plan)
