use Rattle.std.proofs.Common.{refl, ◌∙◌}
use Rattle.cpt_search.proofs.TraversalLemmas.{root-used, root-leaf, root-at, more-used, spent-at, some-waits}
use Rattle.cpt_search.proofs.walk.traverse.Goals as goal

pub returns-in_err-visit-clause-used : goal.returns-in_err-visit-clause-used
returns-in_err-visit-clause-used g c = root-used _ _ _ c.requires.some

pub returns-then-branch-clause-used : goal.returns-then-branch-clause-used
returns-then-branch-clause-used g c = root-used _ _ _ c.requires.some

pub returns-then-branch-clause-walked : goal.returns-then-branch-clause-walked
returns-then-branch-clause-walked g c = root-leaf (g.S.SearchSpace.search_tree _ _) (g.S.SearchSpace.node_runs _ _) _ _ _ _ _ _ _ c.requires.some c.requires.root c.if-branch.true c.in_ok-visit.ensures

pub nodes-init : goal.nodes-init
nodes-init g c = (refl, refl, refl, root-at (g.S.SearchSpace.search_tree _ _) (g.S.SearchSpace.node_runs _ _) _ _ _ _ _ _ c.requires.root c.new.ensures.items c.new-2.ensures.items c.if-branch.false c.in_ok-visit.ensures, c.requires.some)

pub returns-in_err-advance-clause-used : goal.returns-in_err-advance-clause-used
returns-in_err-advance-clause-used g c = more-used _ _ _ _ _ _ _ _ c.in-Some.next _ _ _ c.nodes.invariant.3 c.in-Some.ensures.items c.nodes-test.true c.nodes.invariant.2 c.advance.ensures.used

pub returns-then-branch-2-clause-used : goal.returns-then-branch-2-clause-used
returns-then-branch-2-clause-used g c = more-used _ _ _ _ _ _ _ _ c.in-Some.next _ _ _ c.nodes.invariant.3 c.in-Some.ensures.items c.nodes-test.true c.nodes.invariant.2 c.advance.ensures.used

pub returns-clause-walked : goal.returns-clause-walked
returns-clause-walked g c =
    spent-at (g.S.SearchSpace.search_tree _ _) (g.S.SearchSpace.node_runs _ _) _ _ _ _ _ _ c.nodes.invariant.3 c.nodes.invariant.4 c.nodes-test.false (some-waits _ _ _ c.nodes.progress.waiting.ok.0 c.is_empty.ensures c.if-is_empty.false)
    (λ es. c.from_vec-2.ensures ∙ c.in_ok-leave_open.ensures es)
