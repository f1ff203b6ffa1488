use Rattle.std.specs.Prelude.{◌≡◌, ◌≢◌, ◌≤◌, ◌⊎◌, ℕ, suc, length, List, [], ◌∷◌, ◌++◌, map}
use Rattle.cpt_sheet.specs.declared.data.NodeLine.{NodeLine}
use Rattle.cpt_sheet.specs.declared.data.NodeLine.TheVariants.{Child, Narrow, Close, Branch, OpenNode}
use Rattle.cpt_sheet.specs.declared.data.Step.{Step}
use Rattle.cpt_tree.specs.declared.expansion.Expansion.{Expansion}
use Rattle.cpt_tree.specs.declared.expansion.Expansion.TheVariants.{Closed, Leaf, Branched}
use Rattle.cpt_tree.specs.Trees.{Node, SearchTree, IsLeafless, choices, children_of, root}

-- which runs of steps a node may have
abbrev pub NodeRuns : Type 1
NodeRuns = Node → List Step → Type 0

-- the line of the decision that leads to a node: none for the root
abbrev pub child_line : Node → List NodeLine
child_line [] = []
child_line (d ∷ []) = Child d ∷ []
child_line (d ∷ e ∷ ds) = child_line (e ∷ ds)

-- the line that ends a node's own lines
abbrev pub last_line : Expansion → NodeLine
last_line Closed = Close
last_line Leaf = OpenNode
last_line (Branched flaw ks) = Branch flaw

-- the lines of a visited node
abbrev pub node_lines : Node → List Step → Expansion → List NodeLine
node_lines ds steps f = child_line ds ++ (map Narrow steps ++ last_line f ∷ [])

-- the lines of nodes that are not visited
abbrev pub open_lines : List Node → List NodeLine
open_lines [] = []
open_lines (ds ∷ stack) = child_line ds ++ (OpenNode ∷ open_lines stack)

-- the lines of nodes with these expansions, visited depth first from the stack, each with a run of steps that it may have
abbrev pub Writes : NodeRuns → List Node → List Expansion → List NodeLine → Type 0
Writes Runs stack [] ls = ls ≡ []
Writes Runs [] (f ∷ fs) ls = ⊥
Writes Runs (ds ∷ stack) (f ∷ fs) ls =
    (steps : List Step) × (more : List NodeLine) × Runs ds steps × (ls ≡ node_lines ds steps f ++ more) × Writes Runs (children_of ds (choices f) ++ stack) fs more

-- the text of a tree: the lines of the visited nodes, and then those of the frontier, whose nodes are open
abbrev pub IsTreeText : NodeRuns → List Expansion → List Node → List NodeLine → Type 0
IsTreeText Runs fs frontier ls = (done : List NodeLine) × Writes Runs root fs done × (ls ≡ done ++ open_lines frontier)

-- the text of a finished tree: it has at most n nodes, and none is a leaf
abbrev pub IsFinishedText : SearchTree → NodeRuns → ℕ → List NodeLine → Type 0
IsFinishedText T Runs n ls = (fs : List Expansion) × IsLeafless T fs [] × (length fs ≤ n) × IsTreeText Runs fs [] ls

-- the text of a partial tree: its first n nodes are visited, none is a leaf, and all others that are reached, of which
-- there are some, are open
abbrev pub IsPartialText : SearchTree → NodeRuns → ℕ → List NodeLine → Type 0
IsPartialText T Runs n ls = (fs : List Expansion) × (frontier : List Node) × IsLeafless T fs frontier × (length fs ≡ n) × (frontier ≢ []) × IsTreeText Runs fs frontier ls

-- the text of the tree below bound b: that of the bound before it, or the close line alone where b is the first bound
abbrev pub IsTextBelow : (ℕ → SearchTree) → (ℕ → NodeRuns) → ℕ → ℕ → ℕ → List NodeLine → Type 0
IsTextBelow T Runs n first b ls = ((b ≡ first) × (ls ≡ Close ∷ [])) ⊎ ((c : ℕ) × (b ≡ suc c) × (first ≤ c) × IsFinishedText (T c) (Runs c) n ls)
