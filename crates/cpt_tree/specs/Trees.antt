use Rattle.std.specs.Prelude.{◌≡◌, ◌≢◌, ℕ, suc, ◌<◌, ◌≤◌, ◌⊎◌, List, [], ◌∷◌, ◌++◌, length, Contains}
use Rattle.cpt_sheet.specs.declared.data.Decision.{Decision}
use Rattle.cpt_tree.specs.declared.expansion.Expansion.{Expansion}
use Rattle.cpt_tree.specs.declared.expansion.Expansion.TheVariants.{Closed, Leaf, Branched}

-- a node of a search tree: the decisions that lead to it, the first one first
abbrev pub Node : Type 0
Node = List Decision

-- A search tree is given by how its nodes expand.
abbrev pub SearchTree : Type 1
SearchTree = Node → Expansion → Type 0

-- each node expands in one way
abbrev pub IsDeterministic : SearchTree → Type 0
IsDeterministic T = (ds : Node) (f g : Expansion) → T ds f → T ds g → f ≡ g

-- the decisions that lead to the children, in order: a node that is not branched has none
abbrev pub choices : Expansion → List Decision
choices Closed = []
choices Leaf = []
choices (Branched flaw ks) = ks

-- the node with one decision more, for each of these
abbrev pub children_of : Node → List Decision → List Node
children_of ds [] = []
children_of ds (k ∷ ks) = (ds ++ k ∷ []) ∷ children_of ds ks

-- The depth-first order. The stack has the nodes to come, the next one first. A node that is visited leaves the stack,
-- and its children take its place, in order. The list has the expansions of the visited nodes, so that the n-th of them
-- is that of the node of number n. The frontier is the stack behind the last of them: the nodes that are reached and
-- not visited.
abbrev pub Traverses : SearchTree → List Node → List Expansion → List Node → Type 0
Traverses T stack [] frontier = frontier ≡ stack
Traverses T [] (f ∷ fs) frontier = ⊥
Traverses T (ds ∷ stack) (f ∷ fs) frontier = T ds f × Traverses T (children_of ds (choices f) ++ stack) fs frontier

-- the stack of a whole tree: its root, where nothing is decided
abbrev pub root : List Node
root = [] ∷ []

-- none of them is a leaf
abbrev pub HaveNoLeaf : List Expansion → Type 0
HaveNoLeaf [] = Unit {0}
HaveNoLeaf (Closed ∷ fs) = HaveNoLeaf fs
HaveNoLeaf (Leaf ∷ fs) = ⊥
HaveNoLeaf (Branched flaw ks ∷ fs) = HaveNoLeaf fs

-- the first nodes of the tree have these expansions, and none is a leaf; the frontier is still to be visited
pub record IsLeafless (T : SearchTree) (fs : List Expansion) (frontier : List Node) : Type 0 where
  pub traversal : Traverses T root fs frontier
  pub leafless : HaveNoLeaf fs

-- the tree has at most n nodes, and no leaf
abbrev pub IsExhausted : SearchTree → ℕ → Type 0
IsExhausted T n = (fs : List Expansion) × IsLeafless T fs [] × (length fs ≤ n)

-- the node is a leaf and among the first n of the tree, and there is no leaf before it
abbrev pub IsFirstLeaf : SearchTree → ℕ → Node → Type 0
IsFirstLeaf T n ds = (fs : List Expansion) × (frontier : List Node) × IsLeafless T fs (ds ∷ frontier) × T ds Leaf × (length fs < n)

-- the tree has more than n nodes, and no leaf is among the first n
abbrev pub IsOverBudget : SearchTree → ℕ → Type 0
IsOverBudget T n = (fs : List Expansion) × (frontier : List Node) × IsLeafless T fs frontier × (length fs ≡ n) × (frontier ≢ [])

-- the tree has a node of number n, and no leaf before it (number 0 is that of none)
abbrev pub IsReached : SearchTree → ℕ → Type 0
IsReached T n = (n ≡ 0) ⊎ ((fs : List Expansion) × (ds : Node) × (frontier : List Node) × IsLeafless T fs (ds ∷ frontier) × (n ≡ suc (length fs)))

-- a node of the tree: the root, or a child of a branched one
pub data IsNode (T : SearchTree) : Node → Type 0 where
  top : IsNode T []
  child : (ds : Node) (f : Expansion) (k : Decision) → IsNode T ds → T ds f → Contains (choices f) k → IsNode T (ds ++ k ∷ [])
