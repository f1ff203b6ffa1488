use Rattle.std.proofs.Common.{◌≡◌, ◌≤◌, ◌++◌, length, drop}
use Rattle.cpt_search.specs.Frontiers.{stacked}
use Rattle.cpt_search.proofs.walk.push_children.Given as goal

abbrev pub invariant-loop-place : goal.invariant-loop-place
invariant-loop-place l = (l.waiting.items ≡ l.fn.waiting.items ++ stacked l.depth (drop l.place l.decisions)) × (l.place ≤ length l.decisions)

abbrev pub decreases-loop-place : goal.decreases-loop-place
decreases-loop-place l = l.place
