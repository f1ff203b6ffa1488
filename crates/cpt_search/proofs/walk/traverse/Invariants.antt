use Rattle.std.proofs.Common.{◌≡◌, ◌+◌, ◌-◌, ◌≤◌}
use Rattle.cpt_search.specs.Frontiers.{IsTraversing}
use Rattle.cpt_search.proofs.walk.traverse.Given as goal

abbrev pub invariant-nodes : goal.invariant-nodes
invariant-nodes g l =
    (g.S.SearchSpace.problem l.space ≡ g.S.SearchSpace.problem l.fn.space) ×
    (g.S.SearchSpace.at_bound l.space ≡ g.S.SearchSpace.at_bound l.fn.space) ×
    (g.S.SearchSpace.used l.space + 1 ≡ g.S.SearchSpace.used l.fn.space + l.progress.visited) ×
    IsTraversing (g.S.SearchSpace.search_tree (g.S.SearchSpace.problem l.fn.space) (g.S.SearchSpace.at_bound l.fn.space)) (g.S.SearchSpace.node_runs (g.S.SearchSpace.problem l.fn.space) (g.S.SearchSpace.at_bound l.fn.space))
    l.progress.visited (g.S.SearchSpace.decisions l.space) l.progress.lines.items l.progress.waiting.items ×
    (l.progress.visited ≤ l.nodes)

abbrev pub decreases-nodes : goal.decreases-nodes
decreases-nodes g l = l.nodes - l.progress.visited
