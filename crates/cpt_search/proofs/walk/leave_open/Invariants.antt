use Rattle.std.proofs.Common.{◌≡◌, ◌++◌, length}
use Rattle.cpt_tree.specs.Trees.{Node}
use Rattle.cpt_tree.specs.Texts.{open_lines}
use Rattle.cpt_search.specs.Frontiers.{frontier_of}
use Rattle.cpt_search.proofs.walk.leave_open.Given as goal

abbrev pub invariant-loop-next : goal.invariant-loop-next
invariant-loop-next l = (ds : Node) → l.lines.items ++ open_lines (frontier_of ds l.waiting.items) ≡ l.fn.lines.items ++ open_lines (frontier_of ds l.fn.waiting.items)

abbrev pub decreases-loop-next : goal.decreases-loop-next
decreases-loop-next l = length l.waiting.items
