use Rattle.std.specs.Prelude.{ℕ, ◌<◌, length}
use Rattle.cpt_task.specs.Shape.{TaskShape}
use Rattle.cpt_tables.specs.declared.tables.Tables.{Tables}
use Rattle.cpt_tables.specs.Spans.{◌≤ˢ◌}
use Rattle.cpt_tables.specs.Shapes.{PairShape, DistShape, pair_at, dist_at}
use Rattle.cpt_tables.specs.Admissible.{IsAdmissiblePairs, IsAdmissibleDists}

-- at each two atoms of the task the second pair table is at least the first
abbrev pub ArePairsBelow : TaskShape → PairShape → PairShape → Type 0
ArePairsBelow t g h = (p q : ℕ) → p < length t.atoms → q < length t.atoms → pair_at g p q ≤ˢ pair_at h p q

-- at each action and atom of the task the second distance table is at least the first
abbrev pub AreDistsBelow : TaskShape → DistShape → DistShape → Type 0
AreDistsBelow t g d = (a p : ℕ) → a < length t.actions → p < length t.atoms → dist_at g a p ≤ˢ dist_at d a p

-- an admissible pair table that is at least every admissible one in every place
pub record IsGreatestPairs (t : TaskShape) (h : PairShape) : Type 0 where
  pub admissible : IsAdmissiblePairs t h
  pub greatest : (g : PairShape) → IsAdmissiblePairs t g → ArePairsBelow t g h

-- a distance table that is admissible over the pair table, and at least every such one in every place
pub record IsGreatestDists (t : TaskShape) (h : PairShape) (d : DistShape) : Type 0 where
  pub admissible : IsAdmissibleDists t h d
  pub greatest : (g : DistShape) → IsAdmissibleDists t h g → AreDistsBelow t g d

-- the best tables of a task: the greatest admissible pair table, and the greatest distance table over it
pub record IsBest (t : TaskShape) (b : Tables) : Type 0 where
  pub pairs : IsGreatestPairs t b.pairs
  pub dists : IsGreatestDists t b.pairs b.dists
