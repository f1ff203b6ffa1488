use Rattle.std.specs.Prelude.{◌≡◌, ℕ, ◌<◌, ◌≤◌, Bool, true, false, List, [], ◌∷◌, ◌++◌, length, map, take}
use Rattle.cpt_sheet.specs.declared.data.Decision.{Decision}
use Rattle.cpt_sheet.specs.declared.data.NodeLine.{NodeLine}
use Rattle.cpt_sheet.specs.declared.data.NodeLine.TheVariants.{Narrow}
use Rattle.cpt_sheet.specs.declared.data.Step.{Step}
use Rattle.cpt_tree.specs.declared.expansion.Expansion.{Expansion}
use Rattle.cpt_tree.specs.declared.expansion.Expansion.TheVariants.{Leaf}
use Rattle.cpt_search.specs.declared.stack.Pending.{Pending}
use Rattle.cpt_tree.specs.Trees.{Node, SearchTree, IsLeafless, HaveNoLeaf, IsReached, choices, root}
use Rattle.cpt_tree.specs.Texts.{NodeRuns, last_line, Writes}

-- the child on the stack, where these decisions stand
abbrev pub node_of : Node → Pending → Node
node_of ds w = take w.depth ds ++ w.decision ∷ []

-- the frontier: the nodes on the stack, the last one first
abbrev pub frontier_of : Node → List Pending → List Node
frontier_of ds [] = []
frontier_of ds (w ∷ ws) = frontier_of ds ws ++ node_of ds w ∷ []

-- these children on the stack at this depth, the first one last
abbrev pub stacked : ℕ → List Decision → List Pending
stacked n [] = []
stacked n (k ∷ ks) = stacked n ks ++ record { depth = n; decision = k } ∷ []

-- no entry is deeper, or none is less deep
abbrev pub AreAtMost : ℕ → List Pending → Type 0
AreAtMost n [] = Unit {0}
AreAtMost n (w ∷ ws) = (w.depth ≤ n) × AreAtMost n ws

-- each of what is pending lies at least so deep
abbrev pub AreAtLeast : ℕ → List Pending → Type 0
AreAtLeast n [] = Unit {0}
AreAtLeast n (w ∷ ws) = (n ≤ w.depth) × AreAtLeast n ws

-- an entry nearer to the top of the stack is no less deep
abbrev pub AreByDepth : List Pending → Type 0
AreByDepth [] = Unit {0}
AreByDepth (w ∷ ws) = AreAtLeast w.depth ws × AreByDepth ws

-- The invariant of a traversal. So many nodes are visited, none a leaf; these decisions stand; these lines are written
-- for them; and these children are on the stack, which are the frontier.
pub record IsTraversing (T : SearchTree) (Runs : NodeRuns) (n : ℕ) (ds : Node) (ls : List NodeLine) (ws : List Pending) : Type 0 where
  pub expansions : List Expansion
  pub begun : IsLeafless T expansions (frontier_of ds ws)
  pub written : Writes Runs root expansions ls
  pub count : length expansions ≡ n
  pub stair : AreByDepth ws
  pub within : AreAtMost (length ds) ws
  pub short : length ds < n
  pub reached : IsReached T n

-- what a visit of the node does: it is a leaf, or its lines are written and its children pushed
abbrev pub Visits : SearchTree → NodeRuns → Node → List NodeLine → List Pending → Bool → List NodeLine → List Pending → Type 0
Visits T Runs ds ls ws true more after = T ds Leaf
Visits T Runs ds ls ws false more after =
    (f : Expansion) × T ds f × HaveNoLeaf (f ∷ []) × ((steps : List Step) × Runs ds steps × (more ≡ ls ++ (map Narrow steps ++ last_line f ∷ []))) × (after ≡ ws ++ stacked (length ds) (choices f))
