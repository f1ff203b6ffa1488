use Rattle.std.proofs.Common.{◌≡◌}
use Rattle.cpt_search.specs.Raises.{IsRaising}
use Rattle.cpt_search.proofs.raise.raise_bound.Given as goal

abbrev pub invariant-loop-bound : goal.invariant-loop-bound
invariant-loop-bound g l =
    (g.S.SearchSpace.problem l.space ≡ g.S.SearchSpace.problem l.fn.space) ×
    IsRaising (g.S.SearchSpace.search_tree (g.S.SearchSpace.problem l.fn.space)) (g.S.SearchSpace.node_runs (g.S.SearchSpace.problem l.fn.space)) l.nodes l.first l.bound l.below.lines (g.S.SearchSpace.used l.fn.space) (g.S.SearchSpace.used l.space)
