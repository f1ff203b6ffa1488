use Rattle.std.specs.Prelude.{◌≡◌, ℕ, ◌+◌, ◌*◌, ◌/◌, ◌<◌, ◌⊎◌, max, min, List, [], ◌∷◌, length, slice_index_or, slice_set, replicate}
use Rattle.cpt_task.specs.declared.span.Span.{Span}
use Rattle.cpt_task.specs.declared.span.Span.TheVariants.{At, Never}
use Rattle.cpt_task.specs.Shape.{TaskShape}
use Rattle.cpt_tables.specs.Spans.{span_max, IsBelow}

-- a pair table, as contracts see it: how many atoms there are, and a value for each two of them, row by row,
-- where row q has the pairs of q with each atom up to q
pub record PairShape : Type 0 where
  pub atoms : ℕ
  pub values : List Span

-- a distance table, as contracts see it: its sizes, and a value for each action and atom, action by action
pub record DistShape : Type 0 where
  pub actions : ℕ
  pub atoms : ℕ
  pub values : List Span

-- how many values stand before row q
abbrev pub row_start : ℕ → ℕ
row_start q = q * (q + 1) / 2

-- where the value of two atoms stands, in either order
abbrev pub pair_place : ℕ → ℕ → ℕ
pair_place p q = row_start (max p q) + min p q

-- the value of two atoms, in either order
abbrev pub pair_at : PairShape → ℕ → ℕ → Span
pair_at h p q = slice_index_or h.values (pair_place p q) Never

-- the value of an action and an atom
abbrev pub dist_at : DistShape → ℕ → ℕ → Span
dist_at d a p = slice_index_or d.values (a * d.atoms + p) Never

-- a pair table of n atoms with one value everywhere
abbrev pub pairs_of : ℕ → Span → PairShape
pairs_of n v = record { atoms = n; values = replicate (row_start n) v }

-- a distance table with one value everywhere
abbrev pub dists_of : ℕ → ℕ → Span → DistShape
dists_of m n v = record { actions = m; atoms = n; values = replicate (m * n) v }

-- the pair table with this value at these two atoms
abbrev pub with_pair : PairShape → ℕ → ℕ → Span → PairShape
with_pair h p q v = record { atoms = h.atoms; values = slice_set h.values (pair_place p q) v }

-- the distance table with this value at this action and atom
abbrev pub with_dist : DistShape → ℕ → ℕ → Span → DistShape
with_dist d a p v = record { actions = d.actions; atoms = d.atoms; values = slice_set d.values (a * d.atoms + p) v }

-- the table has a value for each pair
abbrev pub IsWholePairs : PairShape → Type 0
IsWholePairs h = length h.values ≡ row_start h.atoms

-- the table has a value for each action and atom
abbrev pub IsWholeDists : DistShape → Type 0
IsWholeDists d = length d.values ≡ d.actions * d.atoms

-- one value everywhere
abbrev pub IsFilledPairs : PairShape → Span → Type 0
IsFilledPairs h v = (p q : ℕ) → p < h.atoms → q < h.atoms → pair_at h p q ≡ v

-- one value everywhere
abbrev pub IsFilledDists : DistShape → Span → Type 0
IsFilledDists d v = (a p : ℕ) → a < d.actions → p < d.atoms → dist_at d a p ≡ v

-- the same two atoms, in either order
abbrev pub IsSamePair : ℕ → ℕ → ℕ → ℕ → Type 0
IsSamePair p q r s = ((p ≡ r) × (q ≡ s)) ⊎ ((p ≡ s) × (q ≡ r))

-- the two atoms have the value now, in either order, and no other two have changed
pub record SetsPair (old new : PairShape) (p q : ℕ) (v : Span) : Type 0 where
  pub size : new.atoms ≡ old.atoms
  pub here : pair_at new p q ≡ v
  pub exchanged : pair_at new q p ≡ v
  pub others : (r s : ℕ) → r < old.atoms → s < old.atoms → (IsSamePair r s p q → ⊥) → pair_at new r s ≡ pair_at old r s

-- the action and the atom have the value now, and no other two have changed
pub record SetsDist (old new : DistShape) (a p : ℕ) (v : Span) : Type 0 where
  pub actions : new.actions ≡ old.actions
  pub atoms : new.atoms ≡ old.atoms
  pub here : dist_at new a p ≡ v
  pub others : (b r : ℕ) → b < old.actions → r < old.atoms → ((b ≡ a) × (r ≡ p) → ⊥) → dist_at new b r ≡ dist_at old b r

-- a pair table whose finite values are below 10^15
abbrev pub IsSmallPairs : PairShape → Type 0
IsSmallPairs h = (p q : ℕ) → p < h.atoms → q < h.atoms → IsBelow 1000000000000000 (pair_at h p q)

-- a distance table whose finite values are below 10^15
abbrev pub IsSmallDists : DistShape → Type 0
IsSmallDists d = (a p : ℕ) → a < d.actions → p < d.atoms → IsBelow 1000000000000000 (dist_at d a p)

-- a pair table of the task's size, with finite values below 10^15
pub record FitsPairs (t : TaskShape) (h : PairShape) : Type 0 where
  pub size : h.atoms ≡ length t.atoms
  pub small : IsSmallPairs h

-- a distance table of the task's sizes, with finite values below 10^15
pub record FitsDists (t : TaskShape) (d : DistShape) : Type 0 where
  pub actions : d.actions ≡ length t.actions
  pub atoms : d.atoms ≡ length t.atoms
  pub small : IsSmallDists d

-- the greatest f over a list, and 0 for an empty one
abbrev pub most_over : (ℕ → Span) → List ℕ → Span
most_over f [] = At 0
most_over f (x ∷ xs) = span_max (f x) (most_over f xs)

-- the greatest value of the atom with one of the list
abbrev pub most_with : PairShape → List ℕ → ℕ → Span
most_with h qs p = most_over (pair_at h p) qs

-- the greatest value of an atom of the first list with one of the second
abbrev pub most_across : PairShape → List ℕ → List ℕ → Span
most_across h ps qs = most_over (most_with h qs) ps

-- H of a set of atoms: the greatest value over all its pairs, an atom with itself included, and 0 for none
abbrev pub set_span_of : PairShape → List ℕ → Span
set_span_of h ps = most_across h ps ps

-- the greatest distance of the action to one of the atoms, and 0 for none
abbrev pub most_dist : DistShape → ℕ → List ℕ → Span
most_dist d a ps = most_over (dist_at d a) ps
