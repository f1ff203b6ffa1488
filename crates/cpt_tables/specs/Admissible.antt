use Rattle.std.specs.Prelude.{◌≡◌, ℕ, ◌<◌, ◌≤◌, ◌⊎◌, min, List, [], ◌∷◌, ◌++◌, length, Contains, slice_index_or}
use Rattle.cpt_task.specs.declared.span.Span.{Span}
use Rattle.cpt_task.specs.declared.span.Span.TheVariants.{At, Never}
use Rattle.cpt_task.specs.declared.task.Action.{Action}
use Rattle.cpt_task.specs.Shape.{TaskShape}
use Rattle.cpt_task.specs.Interference.{Interferes}
use Rattle.cpt_task.specs.Timeline.{idle}
use Rattle.cpt_tables.specs.Spans.{◌≤ˢ◌, ◌<ˢ◌, ◌+ˢ◌, span_max, IsFinite}
use Rattle.cpt_tables.specs.Shapes.{PairShape, DistShape, pair_at, dist_at, set_span_of, most_dist}
use Rattle.cpt_tables.specs.declared.faults.PairFault.{PairFault}
use Rattle.cpt_tables.specs.declared.faults.DistFault.{DistFault}

-- the action neither adds nor deletes the atom
abbrev pub Leaves : Action → ℕ → Type 0
Leaves c q = (Contains c.add q → ⊥) × (Contains c.dele q → ⊥)

-- when an action can end at the earliest
abbrev pub limit_by_one : PairShape → Action → Span
limit_by_one h c = set_span_of h c.pre +ˢ At c.dur

-- when an action can end at the earliest beside an atom that stays
abbrev pub limit_beside : PairShape → Action → ℕ → Span
limit_beside h c q = set_span_of h (c.pre ++ q ∷ []) +ˢ At c.dur

-- when two actions that run side by side can both have ended at the earliest
abbrev pub limit_by_two : PairShape → Action → Action → Span
limit_by_two h c d = span_max (limit_by_one h c) (span_max (limit_by_one h d) (set_span_of h (c.pre ++ d.pre) +ˢ At (min c.dur d.dur)))

-- both atoms are initial: the value is to be 0
abbrev pub IsLimitAtStart : TaskShape → ℕ → ℕ → Span → Type 0
IsLimitAtStart t p q v = Contains t.init p × Contains t.init q × (v ≡ At 0)

-- an action adds both
abbrev pub IsLimitByOne : TaskShape → PairShape → ℕ → ℕ → Span → Type 0
IsLimitByOne t h p q v = (c : Action) × Contains t.actions c × Contains c.add p × Contains c.add q × (v ≡ limit_by_one h c)

-- an action adds p and leaves q
abbrev pub IsLimitBeside : TaskShape → PairShape → ℕ → ℕ → Span → Type 0
IsLimitBeside t h p q v = (c : Action) × Contains t.actions c × Contains c.add p × Leaves c q × (v ≡ limit_beside h c q)

-- of two actions that do not interfere, the one adds p and the other adds q (where the two are one action, this is
-- the right side that it gives what it adds)
abbrev pub IsLimitByTwo : TaskShape → PairShape → ℕ → ℕ → Span → Type 0
IsLimitByTwo t h p q v =
    (c : Action) × (d : Action) × Contains t.actions c × Contains t.actions d × (Interferes c d → ⊥) × Contains c.add p × Contains d.add q × (v ≡ limit_by_two h c d)

-- v is a right side that the cases give the atoms p and q: the value of the two must not be above it
pub data IsPairLimit (t : TaskShape) (h : PairShape) (p q : ℕ) (v : Span) : Type 0 where
  at_start : IsLimitAtStart t p q v → IsPairLimit t h p q v
  by_one : IsLimitByOne t h p q v → IsPairLimit t h p q v
  beside : IsLimitBeside t h p q v → IsPairLimit t h p q v
  beside_exchanged : IsLimitBeside t h q p v → IsPairLimit t h p q v
  by_two : IsLimitByTwo t h p q v → IsPairLimit t h p q v

-- no value is above a right side that the cases give it
abbrev pub IsAdmissiblePairs : TaskShape → PairShape → Type 0
IsAdmissiblePairs t h = (p q : ℕ) → p < length t.atoms → q < length t.atoms → (v : Span) → IsPairLimit t h p q v → pair_at h p q ≤ˢ v

-- the action of a number
abbrev pub nth_action : TaskShape → ℕ → Action
nth_action t a = slice_index_or t.actions a idle

-- the atom can hold together with each of the list
abbrev pub CanHoldWith : PairShape → ℕ → List ℕ → Type 0
CanHoldWith h p xs = (r : ℕ) → Contains xs r → IsFinite (pair_at h p r)

-- the action does not delete the atom, and the atom can hold together with each atom that it adds
abbrev pub Stays : PairShape → Action → ℕ → Type 0
Stays h a p = (Contains a.dele p → ⊥) × CanHoldWith h p a.add

-- the distance of the action to the atom is to be 0: the action adds the atom, or the atom stays
abbrev pub IsAtOnce : PairShape → Action → ℕ → Type 0
IsAtOnce h a p = Contains a.add p ⊎ Stays h a p

-- how long after action a action c can end at the earliest: once the atoms that it needs hold, it lasts
abbrev pub limit_after : DistShape → ℕ → Action → Span
limit_after d a c = most_dist d a c.pre +ˢ At c.dur

-- an action adds the atom
abbrev pub IsLimitAfter : TaskShape → DistShape → ℕ → ℕ → Span → Type 0
IsLimitAfter t d a p v = (c : Action) × Contains t.actions c × Contains c.add p × (v ≡ limit_after d a c)

-- v is a right side that the cases give action a and atom p
pub data IsDistLimit (t : TaskShape) (h : PairShape) (d : DistShape) (a p : ℕ) (v : Span) : Type 0 where
  at_once : IsAtOnce h (nth_action t a) p → v ≡ At 0 → IsDistLimit t h d a p v
  later : (IsAtOnce h (nth_action t a) p → ⊥) → IsLimitAfter t d a p v → IsDistLimit t h d a p v

-- no distance is above a right side that the cases give it
abbrev pub IsAdmissibleDists : TaskShape → PairShape → DistShape → Type 0
IsAdmissibleDists t h d = (a p : ℕ) → a < length t.actions → p < length t.atoms → (v : Span) → IsDistLimit t h d a p v → dist_at d a p ≤ˢ v

-- the least span of which L holds, and Never where L holds of none
pub record IsLeast (L : Span → Type 0) (most : Span) : Type 0 where
  pub taken : L most ⊎ (most ≡ Never)
  pub least : (v : Span) → L v → most ≤ˢ v

-- the first two numbers come before the second two
abbrev pub ComesBefore : ℕ → ℕ → ℕ → ℕ → Type 0
ComesBefore p q r s = (p < r) ⊎ ((p ≡ r) × (q < s))

-- the least pair p <= q whose value is above its least right side, with that right side
pub record IsPairFault (t : TaskShape) (h : PairShape) (fault : PairFault) : Type 0 where
  pub ordered : fault.p ≤ fault.q
  pub within : fault.q < length t.atoms
  pub least : IsLeast (IsPairLimit t h fault.p fault.q) fault.most
  pub above : fault.most <ˢ pair_at h fault.p fault.q
  pub first : (p q : ℕ) → p ≤ q → q < length t.atoms → ComesBefore p q fault.p fault.q → (v : Span) → IsPairLimit t h p q v → pair_at h p q ≤ˢ v

-- the least action and atom whose distance is above its least right side, with that right side
pub record IsDistFault (t : TaskShape) (h : PairShape) (d : DistShape) (fault : DistFault) : Type 0 where
  pub action : fault.act < length t.actions
  pub within : fault.atom < length t.atoms
  pub least : IsLeast (IsDistLimit t h d fault.act fault.atom) fault.most
  pub above : fault.most <ˢ dist_at d fault.act fault.atom
  pub first : (a p : ℕ) → a < length t.actions → p < length t.atoms → ComesBefore a p fault.act fault.atom → (v : Span) → IsDistLimit t h d a p v → dist_at d a p ≤ˢ v
