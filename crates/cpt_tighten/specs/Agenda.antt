use Rattle.std.specs.Prelude.{◌≡◌, ℕ, ◌<◌, Bool, true, false, List, length, take, All, Contains}
use Rattle.std.specs.List.Sorted.{IsSorted}
use Rattle.std.specs.declared.cmp.Ordering.{Ordering}
use Rattle.std.specs.Ordering.{bool_cmp, nat_cmp, ordering_then}
use Rattle.cpt_task.specs.declared.plan.Occ.{Occ}
use Rattle.cpt_task.specs.Shape.{TaskShape}
use Rattle.cpt_task.specs.Timeline.{end_of, occurrence_at}
use Rattle.cpt_tighten.specs.declared.agenda.Event.{Event}

-- when the occurrence at a place starts, or ends
abbrev pub moment : TaskShape → List Occ → Bool → ℕ → ℕ
moment t plan true k = (occurrence_at plan k).start
moment t plan false k = end_of t (occurrence_at plan k)

-- the occurrence at a place starts, or ends
abbrev pub event : TaskShape → List Occ → Bool → ℕ → Event
event t plan starts k = record { time = moment t plan starts k; starts = starts; place = k }

-- a start or an end in the plan
pub record IsEvent (t : TaskShape) (plan : List Occ) (e : Event) : Type 0 where
  pub within : e.place < length plan
  pub time : e.time ≡ moment t plan e.starts e.place

-- the events have the starts and the ends of the first n places, and no others than those of the plan
pub record HasEvents (t : TaskShape) (plan : List Occ) (n : ℕ) (events : List Event) : Type 0 where
  pub whole : (starts : Bool) (k : ℕ) → k < n → Contains events (event t plan starts k)
  pub only : All (IsEvent t plan) events

-- the order of events: by time, and ends before starts
abbrev pub event_cmp : Event → Event → Ordering
event_cmp e f = ordering_then (nat_cmp e.time f.time) (ordering_then (bool_cmp e.starts f.starts) (nat_cmp e.place f.place))

-- the starts and the ends of the plan, in order
pub record IsAgenda (t : TaskShape) (plan : List Occ) (events : List Event) : Type 0 where
  pub sorted : IsSorted event_cmp events
  pub has : HasEvents t plan (length plan) events

-- the occurrence at a place has started, or has ended, by the first k events
abbrev pub HasPassed : TaskShape → List Occ → List Event → ℕ → Bool → ℕ → Type 0
HasPassed t plan events k starts i = Contains (take k events) (event t plan starts i)
