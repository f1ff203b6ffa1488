use Rattle.std.proofs.Common.{◌≡◌, ◌≤◌, length, take}
use Rattle.cpt_search.proofs.walk.go_back.Given as goal

abbrev pub invariant-loop-space : goal.invariant-loop-space
invariant-loop-space g l =
    (g.S.SearchSpace.problem l.space ≡ g.S.SearchSpace.problem l.fn.space) ×
    (g.S.SearchSpace.at_bound l.space ≡ g.S.SearchSpace.at_bound l.fn.space) ×
    (g.S.SearchSpace.used l.space ≡ g.S.SearchSpace.used l.fn.space) ×
    (take l.depth (g.S.SearchSpace.decisions l.space) ≡ take l.depth (g.S.SearchSpace.decisions l.fn.space)) ×
    (l.depth ≤ length (g.S.SearchSpace.decisions l.space))

abbrev pub decreases-loop-space : goal.decreases-loop-space
decreases-loop-space g l = length (g.S.SearchSpace.decisions l.space)
