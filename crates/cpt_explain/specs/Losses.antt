use Rattle.std.specs.Prelude.{◌≡◌, ℕ, ◌<◌, ◌≤◌, ◌&&◌, not, Bool, true, false, List}
use Rattle.cpt_task.specs.declared.plan.Occ.{Occ}
use Rattle.cpt_task.specs.Shape.{TaskShape}
use Rattle.cpt_task.specs.Timeline.{action_of, adds_at, deletes_at, end_of, is_in, occurrence_at}

-- the occurrence deletes the atom at its end, and none adds it then
abbrev pub is_lost : TaskShape → List Occ → Occ → ℕ → Bool
is_lost t plan o p = is_in p (action_of t o).dele && not (adds_at t plan (end_of t o) p)

-- between two moments, the first at which one of the first k occurrences loses the atom, and else the second moment
pub record IsFirstLoss (t : TaskShape) (plan : List Occ) (from to p k first : ℕ) : Type 0 where
  pub low : from < first
  pub high : first ≤ to
  pub lost : first < to → (deletes_at t plan first p ≡ true) × (adds_at t plan first p ≡ false)
  pub kept : (i : ℕ) → i < k → from < end_of t (occurrence_at plan i) → end_of t (occurrence_at plan i) < first → is_lost t plan (occurrence_at plan i) p ≡ false
