use Rattle.std.specs.Prelude.{◌≢◌, ◌≡◌, ℕ, zero, suc, ◌+◌, ◌^◌, ◌<◌, ◌≤◌, List, [], ◌∷◌, ◌++◌, length, Contains}
use Rattle.cpt_sheet.specs.declared.data.Decision.{Decision}
use Rattle.cpt_tree.specs.declared.expansion.Expansion.{Expansion}
use Rattle.cpt_tree.specs.Trees.{Node, SearchTree, Traverses, IsNode, choices, children_of, root}

-- the sum of w ^ i for i from 0 to d
abbrev pub power_sum : ℕ → ℕ → ℕ
power_sum w zero = 1
power_sum w (suc d) = power_sum w d + w ^ suc d

-- no node has more than w children
abbrev pub BranchesAtMost : SearchTree → ℕ → Type 0
BranchesAtMost T w = (ds : Node) (f : Expansion) → IsNode T ds → T ds f → length (choices f) ≤ w

-- no node has more than d decisions
abbrev pub IsAtMostDeep : SearchTree → ℕ → Type 0
IsAtMostDeep T d = (ds : Node) → IsNode T ds → length ds ≤ d

-- the measure of each child is below that of its parent
abbrev pub LowersMeasure : SearchTree → (Node → ℕ) → Type 0
LowersMeasure T measure = (ds : Node) (f : Expansion) (k : Decision) → IsNode T ds → T ds f → Contains (choices f) k → measure (ds ++ k ∷ []) < measure ds

-- the tree has at most n nodes, visited or still to be visited
abbrev pub HasAtMostNodes : SearchTree → ℕ → Type 0
HasAtMostNodes T n = (fs : List Expansion) (frontier : List Node) → Traverses T root fs frontier → length fs + length frontier ≤ n

-- the tree has more than n nodes
abbrev pub HasMoreNodes : SearchTree → ℕ → Type 0
HasMoreNodes T n = (fs : List Expansion) × (frontier : List Node) × Traverses T root fs frontier × (length fs ≡ n) × (frontier ≢ [])

-- the nodes that a traversal visits, in order
abbrev pub visited_nodes : List Node → List Expansion → List Node
visited_nodes stack [] = []
visited_nodes [] (f ∷ fs) = []
visited_nodes (ds ∷ stack) (f ∷ fs) = ds ∷ visited_nodes (children_of ds (choices f) ++ stack) fs
