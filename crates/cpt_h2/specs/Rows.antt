use Rattle.std.specs.Prelude.{◌≡◌, ℕ, ◌+◌, ◌*◌, ◌<◌, min, List, length}
use Rattle.cpt_task.specs.declared.span.Span.{Span}
use Rattle.cpt_task.specs.declared.span.Span.TheVariants.{At}
use Rattle.cpt_task.specs.declared.task.Action.{Action}
use Rattle.cpt_tables.specs.Spans.{◌≤ˢ◌, ◌+ˢ◌, span_max, IsBelow}
use Rattle.cpt_tables.specs.Shapes.{PairShape, pair_at, most_with, set_span_of}
use Rattle.cpt_tables.specs.Weights.{value_at, reached}
use Rattle.cpt_h2.specs.Board.{BoardShape}
use Rattle.cpt_h2.specs.Rules.{action_of}

-- the row of a list of atoms: the greatest value of each atom with one of the list
pub record IsRowOf (h : PairShape) (ps : List ℕ) (row : List Span) : Type 0 where
  pub size : length row ≡ h.atoms
  pub values : (q : ℕ) → q < h.atoms → value_at row q ≡ most_with h ps q

-- the values of table g are at most those of table h
abbrev pub IsAtMost : PairShape → PairShape → Type 0
IsAtMost g h = (k : ℕ) → value_at g.values k ≤ˢ value_at h.values k

-- the row was read from a table before: its values are at least those that the board's table gives the list
pub record IsRowOver (b : BoardShape) (ps : List ℕ) (row : List Span) : Type 0 where
  pub size : length row ≡ b.pairs.atoms
  pub over : (q : ℕ) → q < b.pairs.atoms → most_with b.pairs ps q ≤ˢ value_at row q
  pub small : (q : ℕ) → q < b.pairs.atoms → IsBelow (100000 * reached b.pairs.values + 1) (value_at row q)

-- the values of the row are at most those that table h gives the list
abbrev pub IsRowUnder : PairShape → List ℕ → List Span → Type 0
IsRowUnder h ps row = (q : ℕ) → q < length row → value_at row q ≤ˢ most_with h ps q

-- the span was read from a table before: it is at least that of the atoms in the board's table
pub record IsSpanOver (b : BoardShape) (ps : List ℕ) (v : Span) : Type 0 where
  pub over : set_span_of b.pairs ps ≤ˢ v
  pub small : IsBelow (100000 * reached b.pairs.values + 1) v

-- what was read of an action before: the span of its preconditions, their row, and the row of what it adds
pub record IsRead (b : BoardShape) (c : Action) (own : Span) (reach tops : List Span) : Type 0 where
  pub begin : IsSpanOver b c.pre own
  pub near : IsRowOver b c.pre reach
  pub top : IsRowOver b c.add tops

-- table h is at least that of the board, and what was read of the action is at most what h says
pub record IsFrom (h g : PairShape) (c : Action) (own : Span) (reach : List Span) : Type 0 where
  pub above : IsAtMost g h
  pub begin : own ≤ˢ set_span_of h c.pre
  pub near : IsRowUnder h c.pre reach

-- the first n spans were read from a table before, for the preconditions of the first n actions
abbrev pub AreSpansOver : BoardShape → List Action → List Span → ℕ → Type 0
AreSpansOver b actions spans n = (j : ℕ) → j < n → IsSpanOver b (action_of actions j).pre (value_at spans j)

-- the first n spans are at most those of table h
abbrev pub AreSpansUnder : PairShape → List Action → List Span → ℕ → Type 0
AreSpansUnder h actions spans n = (j : ℕ) → j < n → value_at spans j ≤ˢ set_span_of h (action_of actions j).pre

-- the limit of two actions, of the spans of their preconditions and of the greatest value across them
abbrev pub limit_of_parts : Action → Action → Span → Span → Span → Span
limit_of_parts c d own other across = span_max (own +ˢ At c.dur) (span_max (other +ˢ At d.dur) (span_max own (span_max other across) +ˢ At (min c.dur d.dur)))

-- each value of the new row is the greater of the old one and of the atom's with p
pub record Raises (h : PairShape) (p : ℕ) (old new : List Span) : Type 0 where
  pub size : length new ≡ length old
  pub values : (q : ℕ) → q < length old → value_at new q ≡ span_max (value_at old q) (pair_at h q p)

-- there is room for a span of each of so many actions, and for two rows over so many atoms
pub record IsRoom (actions atoms : ℕ) (spans reach tops : List Span) : Type 0 where
  pub each : length spans ≡ actions
  pub first : length reach ≡ atoms
  pub second : length tops ≡ atoms
