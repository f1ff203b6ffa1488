use Rattle.std.specs.Prelude.{◌≡◌, ℕ, Bool, List, [], ◌∷◌, ◌++◌, length, map, All, Contains, ◌<◌, ◌≤◌, ◌&&◌, ◌||◌, nat_lt, ◌==◌}
use Rattle.std.specs.List.Sorted.{IsSorted, IsPermutation}
use Rattle.std.specs.declared.cmp.Ordering.{Ordering}
use Rattle.std.specs.Ordering.{nat_cmp, ordering_then}
use Rattle.cpt_task.specs.declared.task.Action.{Action}
use Rattle.cpt_task.specs.declared.plan.Occ.{Occ}
use Rattle.cpt_task.specs.declared.register.Role.{Role}
use Rattle.cpt_task.specs.declared.register.Role.TheVariants.{Pre, Add, Dele}
use Rattle.cpt_task.specs.declared.register.Border.{Border}
use Rattle.cpt_task.specs.declared.register.Border.TheVariants.{Start, End}
use Rattle.cpt_task.specs.declared.register.Mark.{Mark}
use Rattle.cpt_task.specs.declared.register.Register.{Register}
use Rattle.cpt_task.specs.declared.register.Timetable.{Timetable}
use Rattle.cpt_task.specs.Shape.{TaskShape}
use Rattle.cpt_task.specs.Timeline.{action_of, end_of, occurrence_at, Overlaps}

-- the list of an action
abbrev pub atoms_in : Role → Action → List ℕ
atoms_in Pre a = a.pre
atoms_in Add a = a.add
atoms_in Dele a = a.dele

-- when an occurrence starts or ends
abbrev pub moment_of : TaskShape → Border → Occ → ℕ
moment_of t Start o = o.start
moment_of t End o = end_of t o

-- the marks of some atoms at a moment
abbrev pub marks_at : ℕ → List ℕ → List Mark
marks_at time ps = map (λ p. record { atom = p; time = time }) ps

-- the marks of a plan for a list and a border
abbrev pub marks_of : TaskShape → Role → Border → List Occ → List Mark
marks_of t r b [] = []
marks_of t r b (o ∷ os) = marks_at (moment_of t b o) (atoms_in r (action_of t o)) ++ marks_of t r b os

-- the mark is of a lesser atom, or of the atom and earlier
abbrev pub is_before : ℕ → ℕ → Mark → Bool
is_before p time m = nat_lt m.atom p || ((m.atom == p) && nat_lt m.time time)

-- the order of marks
abbrev pub mark_cmp : Mark → Mark → Ordering
mark_cmp m n = ordering_then (nat_cmp m.atom n.atom) (nat_cmp m.time n.time)

-- the marks are in order
abbrev pub IsMarkSorted : List Mark → Type 0
IsMarkSorted = IsSorted mark_cmp

-- the sorted marks of a plan for a list and a border, where each occurrence lasts
pub record IsMarks (t : TaskShape) (plan : List Occ) (r : Role) (b : Border) (ms : List Mark) : Type 0 where
  pub sorted : IsMarkSorted ms
  pub same : IsPermutation (marks_of t r b plan) ms
  pub lasting : All (λ o. o.start < end_of t o) plan

-- the register of a plan for a list
pub record IsRegister (t : TaskShape) (plan : List Occ) (r : Role) (g : Register) : Type 0 where
  pub starts : IsMarks t plan r Start g.starts.items
  pub ends : IsMarks t plan r End g.ends.items

-- the timetable of a plan
pub record IsTimetable (t : TaskShape) (plan : List Occ) (w : Timetable) : Type 0 where
  pub pre : IsRegister t plan Pre w.pre
  pub add : IsRegister t plan Add w.add
  pub dele : IsRegister t plan Dele w.dele

-- no other place than i has an occurrence that has the atom in the list and overlaps that at i
abbrev pub IsAlone : TaskShape → List Occ → Role → ℕ → ℕ → Type 0
IsAlone t plan r i p = (k : ℕ) → k < length plan → (k ≡ i → ⊥) → Contains (atoms_in r (action_of t (occurrence_at plan k))) p → Overlaps t (occurrence_at plan i) (occurrence_at plan k) → ⊥

-- there is no mark of the atom up to the moment
abbrev pub NoMarkUpTo : List Mark → ℕ → ℕ → Type 0
NoMarkUpTo ms p time = (s : ℕ) → Contains ms (record { atom = p; time = s }) → s ≤ time → ⊥

-- the last mark of the atom up to the moment
pub record IsLastMark (ms : List Mark) (p time m : ℕ) : Type 0 where
  pub within : m ≤ time
  pub there : Contains ms (record { atom = p; time = m })
  pub last : (s : ℕ) → Contains ms (record { atom = p; time = s }) → s ≤ time → s ≤ m
