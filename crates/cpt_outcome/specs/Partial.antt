use Rattle.std.specs.Prelude.{◌≡◌, ℕ, Bool, true, false, List, count_by}
use Rattle.std.specs.List.{list_any}
use Rattle.cpt_sheet.specs.declared.data.NodeLine.{NodeLine}
use Rattle.cpt_sheet.specs.declared.data.NodeLine.TheVariants.{Child, Narrow, Close, Branch, OpenNode}
use Rattle.cpt_tree.specs.Texts.{IsPartialText}
use Rattle.cpt_outcome.specs.Nodes.{SearchProblem, search_tree, node_runs}

-- the line closes or branches a node
abbrev pub ends_visit : NodeLine → Bool
ends_visit (Child d) = false
ends_visit (Narrow step) = false
ends_visit Close = true
ends_visit (Branch flaw) = true
ends_visit OpenNode = false

-- the line leaves a node open
abbrev pub leaves_open : NodeLine → Bool
leaves_open (Child d) = false
leaves_open (Narrow step) = false
leaves_open Close = false
leaves_open (Branch flaw) = false
leaves_open OpenNode = true

-- the text of a partial tree closes or branches exactly as many nodes as were visited, and leaves some open
abbrev pub PartialTextsCount : Type 0
PartialTextsCount = (w : SearchProblem) (b n : ℕ) (ls : List NodeLine) → IsPartialText (search_tree w b) (node_runs w b) n ls → (count_by ends_visit ls ≡ n) × (list_any leaves_open ls ≡ true)
