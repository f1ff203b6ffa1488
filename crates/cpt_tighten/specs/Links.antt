use Rattle.std.specs.Prelude.{◌≡◌, ℕ, ◌≤◌, ◌<◌, List, [], ◌∷◌, length, Option, None, Some, Contains, reverse, true, false}
use Rattle.cpt_task.specs.declared.plan.Occ.{Occ}
use Rattle.cpt_task.specs.Shape.{TaskShape}
use Rattle.cpt_task.specs.Timeline.{action_of, occurrence_at}
use Rattle.cpt_tighten.specs.declared.agenda.Event.{Event}
use Rattle.cpt_tighten.specs.declared.moments.Finish.{Finish}
use Rattle.cpt_tighten.specs.declared.records.Records.{Records}
use Rattle.cpt_tighten.specs.Agenda.{HasPassed, IsAgenda}
use Rattle.cpt_tighten.specs.Best.{entry, IsBest}
use Rattle.cpt_tighten.specs.Needs.{IsNeeded}
use Rattle.cpt_tighten.specs.Records.{IsSized}
use Rattle.cpt_tighten.specs.Schedules.{IsSchedule}

-- when an occurrence starts that waits for the end
abbrev pub start_of : Option Finish → ℕ
start_of None = 0
start_of (Some f) = f.end

-- an occurrence that waits for the end
abbrev pub waiting : Occ → Option Finish → Occ
waiting o best = record { act = o.act; start = start_of best }

-- The place waits in the schedule for the end of whom is needed before it and ends last, and starts then.
pub record IsLinked (t : TaskShape) (plan tight : List Occ) (j : ℕ) (link : Option Finish) : Type 0 where
  pub last : IsBest t tight (λ k. IsNeeded t plan k j) link
  pub start : (occurrence_at tight j).start ≡ start_of link

-- a schedule in which each place starts as soon as whom it waits for has ended
pub record IsTightened (t : TaskShape) (plan tight : List Occ) (links : List (Option Finish)) : Type 0 where
  pub schedule : IsSchedule plan tight
  pub early : (j : ℕ) → (occurrence_at tight j).start ≤ (occurrence_at plan j).start
  pub count : length links ≡ length plan
  pub linked : (j : ℕ) → j < length plan → IsLinked t plan tight j (entry links j)

-- what the records say after the first k events
pub record AreRecorded (t : TaskShape) (plan tight : List Occ) (events : List Event) (k : ℕ) (r : Records) : Type 0 where
  pub needs : (p : ℕ) → IsBest t tight (λ i. HasPassed t plan events k false i × Contains (action_of t (occurrence_at plan i)).pre p) (entry r.needs.items p)
  pub adds : (p : ℕ) → IsBest t tight (λ i. HasPassed t plan events k false i × Contains (action_of t (occurrence_at plan i)).add p) (entry r.adds.items p)
  pub deletes : (p : ℕ) → IsBest t tight (λ i. HasPassed t plan events k false i × Contains (action_of t (occurrence_at plan i)).dele p) (entry r.deletes.items p)
  pub adders : (p : ℕ) → IsBest t plan (λ i. HasPassed t plan events k false i × Contains (action_of t (occurrence_at plan i)).add p) (entry r.adders.items p)

-- the schedule after the first k events
pub record IsUnderway (t : TaskShape) (plan : List Occ) (events : List Event) (k : ℕ) (tight : List Occ) (links : List (Option Finish)) (r : Records) : Type 0 where
  pub agenda : IsAgenda t plan events
  pub schedule : IsSchedule plan tight
  pub early : (j : ℕ) → (occurrence_at tight j).start ≤ (occurrence_at plan j).start
  pub count : length links ≡ length plan
  pub sized : IsSized (length t.atoms) r
  pub linked : (j : ℕ) → HasPassed t plan events k true j → IsLinked t plan tight j (entry links j)
  pub records : AreRecorded t plan tight events k r

-- each link leads to a place that starts earlier, and where there is none the place starts at 0
pub record Descends (tight : List Occ) (links : List (Option Finish)) : Type 0 where
  pub down : (j : ℕ) (f : Finish) → entry links j ≡ Some f → (f.place < length tight) × ((occurrence_at tight f.place).start < (occurrence_at tight j).start)
  pub first : (j : ℕ) → j < length tight → entry links j ≡ None → (occurrence_at tight j).start ≡ 0

-- one place links to the other
abbrev pub LinksBack : List (Option Finish) → ℕ → ℕ → Type 0
LinksBack links j i = (f : Finish) × (entry links j ≡ Some f) × (f.place ≡ i)

-- the places that follow i, each linking back to the one before it, up to the last
abbrev pub LinksTo : List (Option Finish) → (last i : ℕ) → List ℕ → Type 0
LinksTo links last i [] = i ≡ last
LinksTo links last i (j ∷ js) = LinksBack links j i × LinksTo links last j js

-- the places by which links lead back from the last to one that starts at 0, that one first
pub record IsTrail (tight : List Occ) (links : List (Option Finish)) (last : ℕ) (chain : List ℕ) : Type 0 where
  pub front : ℕ
  pub rest : List ℕ
  pub is : chain ≡ front ∷ rest
  pub leads : LinksTo links last front rest
  pub start : (occurrence_at tight front).start ≡ 0

-- the places by which links lead back from the last to the one at hand, that one last
pub record HasTrail (links : List (Option Finish)) (last place : ℕ) (chain : List ℕ) : Type 0 where
  pub rest : List ℕ
  pub is : reverse chain ≡ place ∷ rest
  pub leads : LinksTo links last place rest
