use Rattle.std.specs.Prelude.{ℕ, ◌+◌, ◌<◌, ◌≤◌, Bool, true, false, List}
use Rattle.cpt_sheet.specs.declared.data.NodeLine.{NodeLine}
use Rattle.cpt_search.specs.declared.stack.Pending.{Pending}
use Rattle.cpt_search.specs.declared.walk.Traversal.{Traversal}
use Rattle.cpt_search.specs.declared.walk.Traversal.TheVariants.{Found, Refuted, Spent}
use Rattle.cpt_tree.specs.Trees.{Node, SearchTree, IsFirstLeaf, IsReached}
use Rattle.cpt_tree.specs.Texts.{NodeRuns, IsFinishedText, IsPartialText}
use Rattle.cpt_search.specs.Frontiers.{IsTraversing}

-- how a traversal of at most n nodes ends, where these decisions stand at its end
abbrev pub IsTraversal : SearchTree → NodeRuns → ℕ → Node → Traversal → Type 0
IsTraversal T Runs n ds Found = IsFirstLeaf T n ds
IsTraversal T Runs n ds (Refuted tree) = IsFinishedText T Runs n tree.lines
IsTraversal T Runs n ds (Spent tree) = IsPartialText T Runs n tree.lines

-- what one visit more gives: a leaf as the node of number n, or a traversal whose first n nodes are visited
abbrev pub Advances : SearchTree → NodeRuns → ℕ → Node → List NodeLine → List Pending → Bool → Type 0
Advances T Runs n ds ls ws true = IsFirstLeaf T n ds
Advances T Runs n ds ls ws false = IsTraversing T Runs n ds ls ws

-- where so many were used before the root was visited, those used now are no more than the nodes that are reached
abbrev pub IsWithinNodes : SearchTree → ℕ → ℕ → ℕ → Type 0
IsWithinNodes T n before now = (m : ℕ) × IsReached T m × (m ≤ n) × (now < before + m)
