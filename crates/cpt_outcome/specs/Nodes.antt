use Rattle.std.specs.Prelude.{◌≡◌, ℕ, ◌<◌, ◌≤◌, length, List, ◌++◌, Contains, Option, Some, None, []}
use Rattle.cpt_task.specs.Shape.{TaskShape}
use Rattle.cpt_tables.specs.declared.tables.Tables.{Tables}
use Rattle.cpt_sheet.specs.declared.data.Sheet.{Sheet}
use Rattle.cpt_sheet.specs.declared.data.Step.{Step}
use Rattle.cpt_sheet.specs.declared.data.Decision.{Decision}
use Rattle.cpt_sheet.specs.Formed.{IsFormed}
use Rattle.cpt_sheet.specs.Live.{IsLive, IsDead}
use Rattle.cpt_calculus.specs.Closing.{IsClosed, IsFresh}
use Rattle.cpt_calculus.specs.Decisions.{Fits}
use Rattle.cpt_calculus.specs.Flaws.{IsFirstFlaw, HasNoFlaw, children}
use Rattle.cpt_fresh.specs.Fresh.{IsBeginning}
use Rattle.cpt_steps.specs.Tight.{RunsTight}
use Rattle.cpt_tree.specs.declared.expansion.Expansion.{Expansion}
use Rattle.cpt_tree.specs.declared.expansion.Expansion.TheVariants.{Closed, Leaf, Branched}
use Rattle.cpt_tree.specs.Counts.{visited_nodes}
use Rattle.cpt_tree.specs.Trees.{IsNode, Node, Traverses, choices, root}

-- what is searched: a task, tables over it, and the numbers of the rules in use
pub record SearchProblem : Type 0 where
  pub task : TaskShape
  pub tables : Tables
  pub rules : List ℕ

-- the fresh sheet of a node in the tree of a bound, where None stands for dead
abbrev pub IsFreshAt : SearchProblem → ℕ → Node → Option Sheet → Type 0
IsFreshAt w b ds r = IsFresh w.rules w.task w.tables b ds r

-- The search tree of a bound. A node is closed where its fresh sheet is dead, a leaf where that has no flaw, and else
-- branched on the sheet's first flaw, with the children of that flaw.
abbrev pub search_tree : SearchProblem → ℕ → Node → Expansion → Type 0
search_tree w b ds Closed = IsFreshAt w b ds None
search_tree w b ds Leaf = (u : Sheet) × IsFreshAt w b ds (Some u) × HasNoFlaw w.task u
search_tree w b ds (Branched flaw ks) = (u : Sheet) × IsFreshAt w b ds (Some u) × IsFirstFlaw w.task u flaw × (ks ≡ children u flaw)

-- a dead sheet, where the node's fresh sheet is dead, and else that sheet
abbrev pub IsNodeEnd : Option Sheet → Sheet → Type 0
IsNodeEnd None u = IsDead u
IsNodeEnd (Some v) u = u ≡ v

-- a run of steps that a node may have: each is legal and has the very value of its row, and they lead from where the
-- node begins to where it ends
pub record node_runs (w : SearchProblem) (b : ℕ) (ds : Node) (steps : List Step) : Type 0 where
  pub from : Sheet
  pub to : Sheet
  pub fresh : Option Sheet
  pub starts : IsBeginning w.rules w.task w.tables b ds from
  pub leads : RunsTight w.rules w.task w.tables from steps to
  pub is_fresh : IsFreshAt w b ds fresh
  pub ends : IsNodeEnd fresh to

-- a node expands in one way
abbrev pub OneExpansion : Type 0
OneExpansion = (w : SearchProblem) (b : ℕ) (ds : Node) (f g : Expansion) → search_tree w b ds f → search_tree w b ds g → f ≡ g

-- of two traversals from one stack the shorter is the front of the longer, which goes on from the frontier of the shorter
abbrev pub TraversalsAgree : Type 0
TraversalsAgree =
    (w : SearchProblem) (b : ℕ) (stack : List Node) (fs gs : List Expansion) (frontier rest : List Node) →
    Traverses (search_tree w b) stack fs frontier → Traverses (search_tree w b) stack gs rest → length fs ≤ length gs →
    (hs : List Expansion) × (gs ≡ fs ++ hs) × Traverses (search_tree w b) frontier hs rest

-- a traversal that leaves no frontier visits each node of the tree, the root and the children of branched nodes, and no other
abbrev pub NodesVisited : Type 0
NodesVisited =
    (w : SearchProblem) (b : ℕ) (fs : List Expansion) (p : Node) → Traverses (search_tree w b) root fs [] →
    (IsNode (search_tree w b) p → Contains (visited_nodes root fs) p) × (Contains (visited_nodes root fs) p → IsNode (search_tree w b) p)

-- what a fresh sheet is: formed, live, and closed for the rules
pub record IsClosedSheet (w : SearchProblem) (b : ℕ) (u : Sheet) : Type 0 where
  pub bound : u.bound ≡ b
  pub formed : IsFormed w.task u
  pub live : IsLive u
  pub closed : IsClosed w.rules w.task w.tables u

-- the fresh sheet of a node is closed for the rules
abbrev pub FreshIsClosed : Type 0
FreshIsClosed = (w : SearchProblem) (b : ℕ) (ds : Node) (u : Sheet) → IsFreshAt w b ds (Some u) → IsClosedSheet w b u

-- A decision that leads to a child of a node fits the node's fresh sheet, which is there and has few tokens where few
-- decisions stand.
abbrev pub ChoicesFit : Type 0
ChoicesFit =
    (w : SearchProblem) (b : ℕ) (ds : Node) (f : Expansion) (d : Decision) → search_tree w b ds f → Contains (choices f) d → length ds < 4000000000 → (s : Sheet) × IsFreshAt w b ds (Some s) × Fits s d × (length s.tokens < 4200000000)
