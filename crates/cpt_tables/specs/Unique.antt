use Rattle.std.specs.Prelude.{◌≡◌, ℕ, length, Contains}
use Rattle.cpt_task.specs.declared.span.Span.TheVariants.{At}
use Rattle.cpt_task.specs.Shape.{TaskShape, InBounds}
use Rattle.cpt_tables.specs.declared.tables.Tables.{Tables}
use Rattle.cpt_tables.specs.Shapes.{PairShape, IsWholePairs, IsWholeDists, set_span_of}
use Rattle.cpt_tables.specs.Greatest.{IsGreatestPairs, IsBest}

-- the tables have a value for each two atoms of the task, and for each action and atom
pub record HasSizes (t : TaskShape) (b : Tables) : Type 0 where
  pub pair_atoms : b.pairs.atoms ≡ length t.atoms
  pub pairs : IsWholePairs b.pairs
  pub dist_actions : b.dists.actions ≡ length t.actions
  pub dist_atoms : b.dists.atoms ≡ length t.atoms
  pub dists : IsWholeDists b.dists

-- a task has one pair of best tables
abbrev pub OneBest : Type 0
OneBest = (t : TaskShape) (b c : Tables) → HasSizes t b → HasSizes t c → IsBest t b → IsBest t c → b ≡ c

-- where the greatest pair table gives the goal 0, each atom of the goal is initial
abbrev pub ZeroGoalsHold : Type 0
ZeroGoalsHold = (t : TaskShape) (h : PairShape) → InBounds t → IsWholePairs h → h.atoms ≡ length t.atoms → IsGreatestPairs t h → set_span_of h t.goal ≡ At 0 → (p : ℕ) → Contains t.goal p → Contains t.init p
