use Rattle.std.specs.Prelude.{◌≡◌, ℕ, ◌≤◌}
use Rattle.cpt_task.specs.Shape.{TaskShape}
use Rattle.cpt_task.specs.Timeline.{IsPlan}
use Rattle.cpt_tables.specs.declared.tables.Tables.{Tables}
use Rattle.cpt_tables.specs.Greatest.{IsBest}
use Rattle.cpt_tables.specs.Shapes.{IsWholeDists, IsWholePairs}
use Rattle.cpt_sheet.specs.Gaps.{FitsTask}
use Rattle.cpt_calculus.specs.Rules.{all_rules}
use Rattle.cpt_tree.specs.Counts.{HasMoreNodes}
use Rattle.cpt_outcome.specs.Nodes.{SearchProblem, search_tree}
use Rattle.cpt_outcome.specs.Outcomes.{HasOutcome, SearchOutcome, budget_spent, never, none_up_to, optimal}
use Rattle.cpt_options.specs.declared.options.Budget.{Budget}

-- the best tables of a task: a value in each place, and finite ones below 10^15
pub record AreBestTables (t : TaskShape) (b : Tables) : Type 0 where
  pub fits : FitsTask t b
  pub pairs : IsWholePairs b.pairs
  pub dists : IsWholeDists b.dists
  pub best : IsBest t b

-- the search for a plan of the task over these tables, with all rules
abbrev pub full_search : TaskShape → Tables → SearchProblem
full_search t b = record { task = t; tables = b; rules = all_rules }

-- the outcome of the search over the task's best tables, up to the makespan of the budget and with its nodes for each bound
pub record IsOutcome (t : TaskShape) (budget : Budget) (o : SearchOutcome) : Type 0 where
  pub tables : Tables
  pub best : AreBestTables t tables
  pub has : HasOutcome (full_search t tables) budget.max budget.nodes o

-- over the best tables, the tree of a bound has more nodes than this
abbrev pub HasLargeTree : TaskShape → ℕ → ℕ → Type 0
HasLargeTree t n b = (tables : Tables) × AreBestTables t tables × HasMoreNodes (search_tree (full_search t tables) b) n

-- no tree of a bound up to this one has more nodes
abbrev pub HasSmallTrees : TaskShape → ℕ → ℕ → Type 0
HasSmallTrees t n b = (c : ℕ) → c ≤ b → HasLargeTree t n c → ⊥

-- the plan of an outcome, where it has one, is one of the task
abbrev pub HasPlan : TaskShape → SearchOutcome → Type 0
HasPlan t (optimal m plan) = IsPlan t plan
HasPlan t none_up_to = Unit {0}
HasPlan t never = Unit {0}
HasPlan t (budget_spent refuted) = Unit {0}

-- a search for a plan of a task has one outcome
abbrev pub OneOutcome : Type 0
OneOutcome = (t : TaskShape) (budget : Budget) (o p : SearchOutcome) → IsOutcome t budget o → IsOutcome t budget p → o ≡ p
