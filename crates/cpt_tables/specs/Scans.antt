use Rattle.std.specs.Prelude.{◌≡◌, ℕ, ◌<◌, ◌≤◌, ◌⊎◌, max, min, Option, Some, None, List, length, Contains}
use Rattle.cpt_task.specs.declared.span.Span.{Span}
use Rattle.cpt_task.specs.declared.span.Span.TheVariants.{At}
use Rattle.cpt_task.specs.declared.task.Action.{Action}
use Rattle.cpt_task.specs.Shape.{TaskShape}
use Rattle.cpt_task.specs.Interference.{Interferes}
use Rattle.cpt_tables.specs.Spans.{◌≤ˢ◌, ◌<ˢ◌}
use Rattle.cpt_tables.specs.Shapes.{PairShape, DistShape, pair_at, dist_at}
use Rattle.cpt_tables.specs.Admissible.{Leaves, IsAtOnce, IsDistLimit, limit_after, limit_by_one, limit_beside, limit_by_two, nth_action}
use Rattle.cpt_tables.specs.declared.search.Pair.{Pair}

-- the two atoms, the lesser first
abbrev pub sorted : ℕ → ℕ → Pair
sorted p q = record { p = min p q; q = max p q }

-- what has been found stands at this pair or before it
abbrev pub Reaches : Option Pair → Pair → Type 0
Reaches None k = ⊥
Reaches (Some b) k = (b.p < k.p) ⊎ ((b.p ≡ k.p) × (b.q ≤ k.q))

-- what has been found stands at this atom or before it
abbrev pub ReachesAtom : Option ℕ → ℕ → Type 0
ReachesAtom None p = ⊥
ReachesAtom (Some b) p = b ≤ p

-- the first of what has been found and the pair
pub record IsEarlier (old : Option Pair) (pair : Pair) (new : Option Pair) : Type 0 where
  pub lowered : (k : Pair) → Reaches old k → Reaches new k
  pub here : Reaches new pair
  pub origin : (new ≡ old) ⊎ (new ≡ Some pair)

-- what has been found is a place whose value is above a right side that L gives it
abbrev pub IsHit : {K : Type 0} → (K → Span) → (K → Span → Type 0) → Option K → Type 0
IsHit value L None = ⊥
IsHit value L (Some k) = (v : Span) × L k v × (v <ˢ value k)

-- from what had been found a search went on over the right sides of L: it keeps the least place whose value is
-- above one of them
pub record Scans {K : Type 0} (Reach : Option K → K → Type 0) (value : K → Span) (L : K → Span → Type 0) (old new : Option K) : Type 0 where
  pub lowered : (k : K) → Reach old k → Reach new k
  pub passes : (k : K) (v : Span) → L k v → (value k ≤ˢ v) ⊎ Reach new k
  pub origin : (new ≡ old) ⊎ IsHit value L new

-- the right sides that M gives two atoms, as right sides of the sorted pair
abbrev pub OfPair : (ℕ → ℕ → Span → Type 0) → Pair → Span → Type 0
OfPair M k v = (p : ℕ) × (q : ℕ) × (k ≡ sorted p q) × M p q v

-- a search over right sides of pairs
abbrev pub ScansPairs : PairShape → (ℕ → ℕ → Span → Type 0) → Option Pair → Option Pair → Type 0
ScansPairs h M old new = Scans Reaches (λ k. pair_at h k.p k.q) (OfPair M) old new

-- one right side of an atom of the first list with one of the second
abbrev pub IsAmongBoth : List ℕ → List ℕ → Span → ℕ → ℕ → Span → Type 0
IsAmongBoth ps qs most p q v = Contains ps p × Contains qs q × (v ≡ most)

-- no value of an atom of the first list with one of the second is above v
abbrev pub AreMet : PairShape → List ℕ → List ℕ → Span → Type 0
AreMet h ps qs v = (p q : ℕ) → Contains ps p → Contains qs q → pair_at h p q ≤ˢ v

-- one right side of an atom with one of the list
abbrev pub IsWithOne : ℕ → List ℕ → Span → ℕ → ℕ → Span → Type 0
IsWithOne p qs most r q v = (r ≡ p) × Contains qs q × (v ≡ most)

-- one right side of two atoms
abbrev pub IsOne : ℕ → ℕ → Span → ℕ → ℕ → Span → Type 0
IsOne p q most r s v = (r ≡ p) × (s ≡ q) × (v ≡ most)

-- where the action leaves this atom, it gives a right side to it with each atom that it adds
abbrev pub IsBesideOne : PairShape → Action → ℕ → ℕ → ℕ → Span → Type 0
IsBesideOne h c q r s v = Leaves c q × IsWithOne q c.add (limit_beside h c q) r s v

-- the action gives a right side to each atom that it adds with each atom that it leaves
abbrev pub IsBesideAny : PairShape → Action → ℕ → ℕ → Span → Type 0
IsBesideAny h c r s v = (q : ℕ) × (q < h.atoms) × IsBesideOne h c q r s v

-- two actions that do not interfere give a right side to what the one adds with what the other adds
abbrev pub IsOfTwo : PairShape → Action → Action → ℕ → ℕ → Span → Type 0
IsOfTwo h c d r s v = (Interferes c d → ⊥) × IsAmongBoth c.add d.add (limit_by_two h c d) r s v

-- the action of a number with each from it on
abbrev pub IsOfPartner : TaskShape → PairShape → ℕ → ℕ → ℕ → Span → Type 0
IsOfPartner t h i r s v = (j : ℕ) × (j < length t.actions) × (i ≤ j) × IsOfTwo h (nth_action t i) (nth_action t j) r s v

-- all right sides that the action of a number gives
abbrev pub IsOfAction : TaskShape → PairShape → ℕ → ℕ → ℕ → Span → Type 0
IsOfAction t h i r s v =
    (IsAmongBoth (nth_action t i).add (nth_action t i).add (limit_by_one h (nth_action t i)) r s v ⊎ IsBesideAny h (nth_action t i) r s v) ⊎ IsOfPartner t h i r s v

-- all right sides of a task
abbrev pub IsOfTask : TaskShape → PairShape → ℕ → ℕ → Span → Type 0
IsOfTask t h r s v = IsAmongBoth t.init t.init (At 0) r s v ⊎ ((i : ℕ) × (i < length t.actions) × IsOfAction t h i r s v)

-- the lesser of the old span and of those of which L holds
pub record Lessens (L : Span → Type 0) (old new : Span) : Type 0 where
  pub below : new ≤ˢ old
  pub least : (v : Span) → L v → new ≤ˢ v
  pub taken : (new ≡ old) ⊎ L new

-- the right side that the action gives these two atoms, where it adds both
abbrev pub IsOneHere : PairShape → Action → ℕ → ℕ → Span → Type 0
IsOneHere h c p q v = Contains c.add p × Contains c.add q × (v ≡ limit_by_one h c)

-- the right side that the action gives these two atoms, where it adds the first and leaves the second
abbrev pub IsBesideHere : PairShape → Action → ℕ → ℕ → Span → Type 0
IsBesideHere h c p q v = Contains c.add p × Leaves c q × (v ≡ limit_beside h c q)

-- the first action adds the one atom, and the second adds the other
abbrev pub AddBoth : Action → Action → ℕ → ℕ → Type 0
AddBoth c d p q = Contains c.add p × Contains d.add q

-- they do so and do not interfere
abbrev pub AddApart : Action → Action → ℕ → ℕ → Type 0
AddApart c d p q = AddBoth c d p q × (Interferes c d → ⊥)

-- the right side that the two actions give these two atoms, where the first adds the one and the second the other
abbrev pub IsTwoHere : PairShape → Action → Action → ℕ → ℕ → Span → Type 0
IsTwoHere h c d p q v = AddApart c d p q × (v ≡ limit_by_two h c d)

-- the right sides that the action of a number gives these two atoms with any other
abbrev pub IsPartnerHere : TaskShape → PairShape → ℕ → ℕ → ℕ → Span → Type 0
IsPartnerHere t h i p q v = (j : ℕ) × (j < length t.actions) × IsTwoHere h (nth_action t i) (nth_action t j) p q v

-- the right sides that the action of a number gives these two atoms
abbrev pub IsActionHere : TaskShape → PairShape → ℕ → ℕ → ℕ → Span → Type 0
IsActionHere t h i p q v =
    ((IsOneHere h (nth_action t i) p q v ⊎ IsBesideHere h (nth_action t i) p q v) ⊎ IsBesideHere h (nth_action t i) q p v) ⊎ IsPartnerHere t h i p q v

-- the first of what has been found and the atom
pub record IsEarlierAtom (old : Option ℕ) (p new : ℕ) : Type 0 where
  pub lowered : (k : ℕ) → ReachesAtom old k → new ≤ k
  pub here : new ≤ p
  pub origin : (old ≡ Some new) ⊎ (new ≡ p)

-- the distance of the action to the atom is to be 0 and is not
abbrev pub IsLate : PairShape → DistShape → ℕ → Action → ℕ → Type 0
IsLate h d a c p = (At 0 <ˢ dist_at d a p) × IsAtOnce h c p

-- the distance of the action to the atom is to be 0
abbrev pub IsZeroHere : PairShape → Action → ℕ → Span → Type 0
IsZeroHere h c p v = (p < h.atoms) × IsAtOnce h c p × (v ≡ At 0)

-- the right side that action c gives the distance of action a to an atom
abbrev pub IsAfterHere : DistShape → ℕ → Action → ℕ → Span → Type 0
IsAfterHere d a c p v = Contains c.add p × (v ≡ limit_after d a c)

-- the right sides of the distances of action a
abbrev pub IsOfDist : TaskShape → PairShape → DistShape → ℕ → ℕ → Span → Type 0
IsOfDist t h d a p v = IsZeroHere h (nth_action t a) p v ⊎ ((i : ℕ) × (i < length t.actions) × IsAfterHere d a (nth_action t i) p v)

-- a search over right sides of the distances of action a
abbrev pub ScansAtoms : DistShape → ℕ → (ℕ → Span → Type 0) → Option ℕ → Option ℕ → Type 0
ScansAtoms d a M old new = Scans ReachesAtom (dist_at d a) M old new

-- one right side of one atom
abbrev pub IsAtomOne : ℕ → Span → ℕ → Span → Type 0
IsAtomOne p most r v = (r ≡ p) × (v ≡ most)

-- one right side of each atom of a list
abbrev pub IsAtomAmong : List ℕ → Span → ℕ → Span → Type 0
IsAtomAmong ps most p v = Contains ps p × (v ≡ most)

-- no distance of an earlier action is above a right side
abbrev pub IsFineBefore : TaskShape → PairShape → DistShape → ℕ → Type 0
IsFineBefore t h d n = (a p : ℕ) → a < n → p < length t.atoms → (v : Span) → IsDistLimit t h d a p v → dist_at d a p ≤ˢ v
