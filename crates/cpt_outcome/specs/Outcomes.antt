use Rattle.std.specs.Prelude.{◌≡◌, ℕ, suc, ◌<◌, ◌≤◌, ◌⊎◌, ◌==◌, true, List, [], length, Some}
use Rattle.std.specs.List.{list_any}
use Rattle.cpt_task.specs.declared.plan.Occ.{Occ}
use Rattle.cpt_task.specs.declared.span.Span.{Span}
use Rattle.cpt_task.specs.declared.span.Span.TheVariants.{At, Never}
use Rattle.cpt_task.specs.Optimal.{IsOptimal, IsRefuted, HasNoPlan}
use Rattle.cpt_task.specs.Shape.{InBounds}
use Rattle.cpt_task.specs.Timeline.{makespan}
use Rattle.cpt_tables.specs.Greatest.{IsGreatestPairs}
use Rattle.cpt_tables.specs.Shapes.{IsWholePairs, set_span_of}
use Rattle.cpt_sheet.specs.declared.data.Sheet.{Sheet}
use Rattle.cpt_tree.specs.Trees.{Node}
use Rattle.cpt_tree.specs.Deepening.{Concludes, solved, exhausted, spent}
use Rattle.cpt_tree.specs.Counts.{HasMoreNodes}
use Rattle.cpt_outcome.specs.Nodes.{SearchProblem, IsFreshAt, search_tree}
use Rattle.cpt_outcome.specs.Leaves.{IsPlanOfSheet}
use Rattle.cpt_outcome.specs.Refuting.{IsSound}

-- the first moment at which the goal can hold, by the pair table
abbrev pub goal_span : SearchProblem → Span
goal_span w = set_span_of w.tables.pairs w.task.goal

-- what a search finds out: no plan at all; a plan of this makespan, which is the least; no plan up to the greatest
-- bound; or no plan up to this bound, with the budget of nodes spent at the next one
pub data SearchOutcome : Type 0 where
  never : SearchOutcome
  optimal : ℕ → List Occ → SearchOutcome
  none_up_to : SearchOutcome
  budget_spent : ℕ → SearchOutcome

-- the plan of a node's fresh sheet
abbrev pub IsPlanOfNode : SearchProblem → ℕ → Node → List Occ → Type 0
IsPlanOfNode w b ds plan = (u : Sheet) × IsFreshAt w b ds (Some u) × IsPlanOfSheet u plan

-- The outcome of a search up to a greatest bound, with a budget of n nodes for each bound. Where the goal can hold never
-- or at once, it is known without a search. Else the trees of the bounds from the first moment of the goal on give it.
abbrev pub HasOutcome : SearchProblem → ℕ → ℕ → SearchOutcome → Type 0
HasOutcome w most n never = goal_span w ≡ Never
HasOutcome w most n (optimal m plan) =
    ((goal_span w ≡ At 0) × (m ≡ 0) × (plan ≡ [])) ⊎
    ((first : ℕ) × (goal_span w ≡ At first) × (1 ≤ first) × ((ds : Node) × Concludes (search_tree w) n first most (solved m ds) × IsPlanOfNode w m ds plan))
HasOutcome w most n none_up_to =
    (first : ℕ) × (goal_span w ≡ At first) × (1 ≤ first) × ((most < first) ⊎ ((first ≤ most) × Concludes (search_tree w) n first most exhausted))
HasOutcome w most n (budget_spent refuted) = (first : ℕ) × (goal_span w ≡ At first) × (1 ≤ first) × Concludes (search_tree w) n first most (spent (suc refuted))

-- a search has one outcome
abbrev pub OneOutcome : Type 0
OneOutcome = (w : SearchProblem) (most n : ℕ) (o p : SearchOutcome) → HasOutcome w most n o → HasOutcome w most n p → o ≡ p

-- what an outcome says of the task's plans
abbrev pub Says : SearchProblem → ℕ → SearchOutcome → Type 0
Says w most never = HasNoPlan w.task
Says w most (optimal m plan) = IsOptimal w.task plan × (makespan w.task plan ≡ m)
Says w most none_up_to = IsRefuted w.task most
Says w most (budget_spent refuted) = IsRefuted w.task refuted

-- the conditions of a search: a task within bounds, admissible tables of its sizes, of which the pair table is the
-- greatest, and rules 1 and 6 in use
pub record IsSearchable (w : SearchProblem) : Type 0 where
  pub bounds : InBounds w.task
  pub sound : IsSound w
  pub whole : IsWholePairs w.tables.pairs
  pub size : w.tables.pairs.atoms ≡ length w.task.atoms
  pub greatest : IsGreatestPairs w.task w.tables.pairs
  pub one : list_any (λ r. r == 1) w.rules ≡ true
  pub six : list_any (λ r. r == 6) w.rules ≡ true

-- what an outcome says is so, of all plans of any number of occurrences
abbrev pub OutcomesHold : Type 0
OutcomesHold = (w : SearchProblem) (most n : ℕ) (o : SearchOutcome) → IsSearchable w → most ≤ 1000000 → HasOutcome w most n o → Says w most o

-- the budget is spent only in a tree with more nodes
abbrev pub SpentIsLarger : Type 0
SpentIsLarger = (w : SearchProblem) (most n refuted : ℕ) → HasOutcome w most n (budget_spent refuted) → HasMoreNodes (search_tree w (suc refuted)) n

-- where there is a valid plan of at most the greatest bound, and no tree up to its makespan has more nodes than the
-- budget, the outcome is an optimal plan
abbrev pub FindsPlans : Type 0
FindsPlans =
    (w : SearchProblem) (most n : ℕ) (plan : List Occ) (o : SearchOutcome) → IsSearchable w → most ≤ 1000000 → IsOptimal w.task plan → makespan w.task plan ≤ most →
    ((b : ℕ) → b ≤ makespan w.task plan → HasMoreNodes (search_tree w b) n → ⊥) → HasOutcome w most n o → (found : List Occ) × (o ≡ optimal (makespan w.task plan) found)

-- where there is no valid plan of at most the greatest bound, and no tree up to that bound has more nodes than the
-- budget, the outcome says so
abbrev pub FindsNone : Type 0
FindsNone =
    (w : SearchProblem) (most n : ℕ) (o : SearchOutcome) → IsSearchable w → most ≤ 1000000 → IsRefuted w.task most →
    ((b : ℕ) → b ≤ most → HasMoreNodes (search_tree w b) n → ⊥) → HasOutcome w most n o → (o ≡ none_up_to) ⊎ ((o ≡ never) × (goal_span w ≡ Never))
