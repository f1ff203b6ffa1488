use Rattle.std.specs.Prelude.{◌≡◌, ℕ, ◌<◌, Bool, false, List, length, take, All, Contains}
use Rattle.cpt_task.specs.declared.span.Span.{Span}
use Rattle.cpt_task.specs.declared.span.Span.TheVariants.{At, Never}
use Rattle.cpt_task.specs.declared.task.Action.{Action}
use Rattle.cpt_task.specs.Shape.{TaskShape}
use Rattle.cpt_tables.specs.Spans.{◌≤ˢ◌, ◌+ˢ◌, IsFinite}
use Rattle.cpt_tables.specs.Shapes.{PairShape, DistShape, pair_at, dist_at, most_over}
use Rattle.cpt_tables.specs.Admissible.{IsAtOnce, nth_action}
use Rattle.cpt_tables.specs.Weights.{value_at}
use Rattle.cpt_dist.specs.Moving.{Falls, Moves}

-- when the action can end at the earliest, where its atoms hold from these values on
abbrev pub row_limit : (ℕ → Span) → Action → Span
row_limit f c = most_over f c.pre +ˢ At c.dur

-- no atom that the action adds has a value above its limit
abbrev pub IsMetBy : (ℕ → Span) → Action → Type 0
IsMetBy f c = (p : ℕ) → Contains c.add p → f p ≤ˢ row_limit f c

-- no atom has a value above the limit of an action that adds it
abbrev pub IsClosed : List Action → (ℕ → Span) → Type 0
IsClosed actions f = (c : Action) → Contains actions c → IsMetBy f c

-- the atom has a finite value with each of the atoms
abbrev pub HasFinite : PairShape → ℕ → List ℕ → Type 0
HasFinite h p rs = All (λ r. IsFinite (pair_at h p r)) rs

-- the atom has no finite value with one of the atoms
abbrev pub LacksFinite : PairShape → ℕ → List ℕ → Type 0
LacksFinite h p rs = (r : ℕ) × Contains rs r × (IsFinite (pair_at h p r) → ⊥)

-- the first value of a place: 0 where the distance is to be 0, and Never elsewhere
abbrev pub IsStart : PairShape → Action → ℕ → Span → Type 0
IsStart h a p (At m) = (m ≡ 0) × IsAtOnce h a p
IsStart h a p Never = IsAtOnce h a p → ⊥

-- each place of the first so many has its first value
abbrev pub IsStarted : PairShape → Action → ℕ → List Span → Type 0
IsStarted h a n row = (p : ℕ) → p < n → IsStart h a p (value_at row p)

-- the first n actions have been looked at: where nothing moved, their limits are met
pub record SweepsFirst (actions : List Action) (old new : List Span) (n : ℕ) (moved : Bool) : Type 0 where
  pub falls : Falls (IsClosed actions) old new
  pub moves : Moves old new moved
  pub met : moved ≡ false → All (IsMetBy (value_at new)) (take n actions)

-- the greatest row that is closed and at most the old one
pub record IsLowered (actions : List Action) (old new : List Span) : Type 0 where
  pub falls : Falls (IsClosed actions) old new
  pub closed : IsClosed actions (value_at new)

-- the greatest row of an action, by its first values
pub record IsRowOf (t : TaskShape) (h : PairShape) (a : Action) (row : List Span) : Type 0 where
  pub size : length row ≡ length t.atoms
  pub start : List Span
  pub started : IsStarted h a (length t.atoms) start
  pub started_size : length start ≡ length t.atoms
  pub lowered : IsLowered t.actions start row

-- the action's part of the table is the row
abbrev pub HasRow : DistShape → ℕ → List Span → Type 0
HasRow d a row = (p : ℕ) → p < d.atoms → dist_at d a p ≡ value_at row p

-- each action before n has its greatest row in the table
abbrev pub HasRows : TaskShape → PairShape → DistShape → ℕ → Type 0
HasRows t h d n = (a : ℕ) → a < n → (row : List Span) × IsRowOf t h (nth_action t a) row × HasRow d a row

-- the table has its sizes still, and only the action's part may have changed
pub record KeepsOthers (old new : DistShape) (a : ℕ) : Type 0 where
  pub actions : new.actions ≡ old.actions
  pub atoms : new.atoms ≡ old.atoms
  pub others : (b p : ℕ) → b < old.actions → p < old.atoms → (b ≡ a → ⊥) → dist_at new b p ≡ dist_at old b p
