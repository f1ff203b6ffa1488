use Rattle.std.specs.Prelude.{◌≡◌, ℕ, ◌≤◌, ◌<◌, List, [], ◌∷◌, length}
use Rattle.std.specs.List.{sum_by}
use Rattle.cpt_task.specs.declared.plan.Occ.{Occ}
use Rattle.cpt_task.specs.Shape.{TaskShape}
use Rattle.cpt_task.specs.Timeline.{action_of, end_of, occurrence_at}
use Rattle.cpt_tighten.specs.Needs.{IsLatest, IsNeeded}

-- i is the least place that is needed before j in the plan and ends, in the schedule, when j starts
pub record IsLink (t : TaskShape) (plan tight : List Occ) (i j : ℕ) : Type 0 where
  pub needed : IsNeeded t plan i j
  pub meets : end_of t (occurrence_at tight i) ≡ (occurrence_at tight j).start
  pub least : (k : ℕ) → IsNeeded t plan k j → end_of t (occurrence_at tight k) ≡ (occurrence_at tight j).start → i ≤ k

-- the places that follow i, each linked to the one before it, up to the last
abbrev pub LeadsTo : TaskShape → (plan tight : List Occ) → (last i : ℕ) → List ℕ → Type 0
LeadsTo t plan tight last i [] = i ≡ last
LeadsTo t plan tight last i (j ∷ js) = IsLink t plan tight i j × LeadsTo t plan tight last j js

-- The chain that shows how early the schedule can end: it begins with a place that starts at 0, each further place is linked to
-- the one before it, and it ends with the place of the greatest end, the least of them. That of the empty plan is empty.
abbrev pub IsChain : TaskShape → (plan tight : List Occ) → List ℕ → Type 0
IsChain t plan tight [] = plan ≡ []
IsChain t plan tight (i ∷ is) = ((occurrence_at tight i).start ≡ 0) × ((last : ℕ) × IsLatest t tight (λ k. k < length plan) last × LeadsTo t plan tight last i is)

-- how long the actions at the places last, all together
abbrev pub total_duration : TaskShape → List Occ → List ℕ → ℕ
total_duration t plan places = sum_by (λ k. (action_of t (occurrence_at plan k)).dur) places
