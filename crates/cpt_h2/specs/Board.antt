use Rattle.std.specs.Prelude.{◌≡◌, ℕ, ◌<◌, ◌≤◌, ◌⊎◌, Bool, true, false, List, length, All, take, slice_index_or, slice_set}
use Rattle.cpt_task.specs.declared.span.Span.{Span}
use Rattle.cpt_task.specs.declared.task.Action.{Action}
use Rattle.cpt_task.specs.Shape.{HasAtomsBelow, IsDuration}
use Rattle.cpt_tables.specs.Spans.{◌≤ˢ◌, ◌<ˢ◌}
use Rattle.cpt_tables.specs.Shapes.{PairShape, pair_at, row_start, with_pair}
use Rattle.cpt_tables.specs.Weights.{value_at, reached, weight, IsSmall}

-- the values of g are at most those of the list, in every place
abbrev pub IsUnder : List Span → List Span → Type 0
IsUnder g xs = (k : ℕ) → k < length xs → value_at g k ≤ˢ value_at xs k

-- which atoms are marked: all, or those that the list says
pub record MarksShape : Type 0 where
  pub every : Bool
  pub atoms : List Bool

-- a pair table that is being lowered, with a mark at each atom whose values have changed, and whether some have
pub record BoardShape : Type 0 where
  pub pairs : PairShape
  pub marks : MarksShape
  pub moved : Bool

-- the atom has no mark
abbrev pub IsUnmarked : MarksShape → ℕ → Type 0
IsUnmarked m p = slice_index_or m.atoms p true ≡ false

-- no atom of the list is marked
pub record IsQuiet (m : MarksShape) (ps : List ℕ) : Type 0 where
  pub some : m.every ≡ false
  pub atoms : All (IsUnmarked m) ps

-- sizes agree, and finite values are small
pub record IsGood (b : BoardShape) : Type 0 where
  pub places : length b.pairs.values ≡ row_start b.pairs.atoms
  pub marks : length b.marks.atoms ≡ b.pairs.atoms
  pub few : b.pairs.atoms ≤ 2048
  pub small : IsSmall b.pairs.values

-- an atom that has no mark now had none before, and its values are the old ones
pub record Spares (old new : BoardShape) : Type 0 where
  pub every : new.marks.every ≡ old.marks.every
  pub unmarked : (p : ℕ) → IsUnmarked new.marks p → IsUnmarked old.marks p
  pub same : (p q : ℕ) → IsUnmarked new.marks p → q < old.pairs.atoms → pair_at new.pairs p q ≡ pair_at old.pairs p q

-- nothing has changed, or some value is lower
abbrev pub Goes : BoardShape → BoardShape → Type 0
Goes old new = (new ≡ old) ⊎ ((weight new.pairs.values < weight old.pairs.values) × (new.moved ≡ true))

-- the new values are at most the old ones, and still at least each table of which G holds; what has changed is marked
pub record Drops (G : PairShape → Type 0) (old new : BoardShape) : Type 0 where
  pub size : new.pairs.atoms ≡ old.pairs.atoms
  pub good : IsGood new
  pub more : reached old.pairs.values ≤ reached new.pairs.values
  pub under : (k : ℕ) → value_at new.pairs.values k ≤ˢ value_at old.pairs.values k
  pub above : (g : PairShape) → G g → IsUnder g.values old.pairs.values → IsUnder g.values new.pairs.values
  pub spares : Spares old new
  pub goes : Goes old new

-- no value of an atom of the first list with one of the second is above v
abbrev pub AllBelow : PairShape → List ℕ → List ℕ → Span → Type 0
AllBelow h ps qs v = All (λ p. All (λ q. pair_at h p q ≤ˢ v) qs) ps

-- the marks with one more
abbrev pub marked : MarksShape → ℕ → MarksShape
marked m p = record { every = m.every; atoms = slice_set m.atoms p true }

-- the board where the two atoms have a lower value, and marks
abbrev pub lowered : BoardShape → ℕ → ℕ → Span → BoardShape
lowered b p q v = record { pairs = with_pair b.pairs p q v; marks = marked (marked b.marks p) q; moved = true }

-- the two atoms have the value where theirs was greater, and else nothing has changed
abbrev pub LowersPair : BoardShape → BoardShape → ℕ → ℕ → Span → Type 0
LowersPair old new p q v = ((v <ˢ pair_at old.pairs p q) × (new ≡ lowered old p q v)) ⊎ ((pair_at old.pairs p q ≤ˢ v) × (new ≡ old))

-- no atom has a mark
pub record IsClear (m : MarksShape) (n : ℕ) : Type 0 where
  pub some : m.every ≡ false
  pub none : (p : ℕ) → p < n → IsUnmarked m p

-- the values at the first n atoms with p are at most v now
pub record LowersRow (p : ℕ) (qs : List ℕ) (v : Span) (old new : BoardShape) (n : ℕ) : Type 0 where
  pub drops : Drops (λ g. All (λ q. pair_at g p q ≤ˢ v) qs) old new
  pub met : All (λ q. pair_at new.pairs p q ≤ˢ v) (take n qs)

-- the values of the first n atoms with each of the others are at most v now
pub record LowersRows (ps qs : List ℕ) (v : Span) (old new : BoardShape) (n : ℕ) : Type 0 where
  pub drops : Drops (λ g. AllBelow g ps qs v) old new
  pub met : AllBelow new.pairs (take n ps) qs v

-- the action's atoms are below n, and its duration is in range
pub record IsWithin (n : ℕ) (c : Action) : Type 0 where
  pub atoms : HasAtomsBelow n c
  pub duration : IsDuration c.dur
