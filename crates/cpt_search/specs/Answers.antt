use Rattle.std.specs.Prelude.{◌≡◌, ℕ, suc, ◌<◌, ◌≤◌, ◌⊎◌, [], ◌∷◌, Option, Some, None}
use Rattle.cpt_task.specs.declared.span.Span.{Span}
use Rattle.cpt_task.specs.declared.span.Span.TheVariants.{At, Never as NoMoment}
use Rattle.cpt_sheet.specs.declared.data.NodeLine.TheVariants.{Close}
use Rattle.cpt_sheet.specs.declared.data.Tree.{Tree}
use Rattle.cpt_tree.specs.Texts.{IsPartialText, IsTextBelow}
use Rattle.cpt_outcome.specs.Nodes.{SearchProblem, node_runs, search_tree}
use Rattle.cpt_outcome.specs.Outcomes.{SearchOutcome, budget_spent, goal_span, never, none_up_to, optimal}
use Rattle.cpt_search.specs.Raises.{IsWithinVisited}
use Rattle.cpt_search.specs.declared.searching.Outcome.{Outcome}
use Rattle.cpt_search.specs.declared.searching.Outcome.TheVariants.{Optimal, NoneUpTo, Never, Spent}

-- an outcome without its trees
abbrev pub outcome_of : Outcome → SearchOutcome
outcome_of (Optimal plan makespan tree) = optimal makespan plan
outcome_of (NoneUpTo tree) = none_up_to
outcome_of Never = never
outcome_of (Spent refuted full partial) = budget_spent refuted

-- the tree that an optimal plan comes with: none where the goal holds at first, and else that of the bound below
abbrev pub IsProof : SearchProblem → ℕ → ℕ → ℕ → Option Tree → Type 0
IsProof w n first b None = ⊥
IsProof w n first b (Some tree) = IsTextBelow (search_tree w) (node_runs w) n first b tree.lines

-- the trees of an outcome
abbrev pub HasTrees : SearchProblem → ℕ → ℕ → Outcome → Type 0
HasTrees w most n (Optimal plan makespan tree) =
    ((goal_span w ≡ At 0) × (tree ≡ None)) ⊎ ((first : ℕ) × (goal_span w ≡ At first) × (1 ≤ first) × IsProof w n first makespan tree)
HasTrees w most n (NoneUpTo tree) =
    (first : ℕ) × (goal_span w ≡ At first) × (((most < first) × (tree.lines ≡ Close ∷ [])) ⊎ ((first ≤ most) × IsTextBelow (search_tree w) (node_runs w) n first (suc most) tree.lines))
HasTrees w most n Never = Unit {0}
HasTrees w most n (Spent refuted full partial) =
    (first : ℕ) × (goal_span w ≡ At first) × IsTextBelow (search_tree w) (node_runs w) n first (suc refuted) full.lines ×
    IsPartialText (search_tree w (suc refuted)) (node_runs w (suc refuted)) n partial.lines

-- where no bound is searched, as much is used as before
abbrev pub IsIdle : Span → ℕ → ℕ → ℕ → Type 0
IsIdle NoMoment most before now = now ≡ before
IsIdle (At first) most before now = (first ≡ 0) ⊎ (most < first) → now ≡ before

-- where bounds are searched, what is used more is no more than the nodes that are visited
abbrev pub IsSpending : SearchProblem → Span → ℕ → ℕ → ℕ → ℕ → Type 0
IsSpending w NoMoment most n before now = Unit {0}
IsSpending w (At first) most n before now = 1 ≤ first → first ≤ most → IsWithinVisited (search_tree w) n first most before now
