use Rattle.std.proofs.Common.{refl, ◌∙◌, arith}
use Rattle.cpt_search.proofs.BoundLemmas.{raising-first, raising-few, visited-none, visited-walk, raising-more}
use Rattle.cpt_search.proofs.raise.raise_bound.Goals as goal

pub returns-in_err-below-clause-used : goal.returns-in_err-below-clause-used
returns-in_err-below-clause-used g c = visited-none _ _ _ _ _ c.requires.ordered

pub loop-bound-init : goal.loop-bound-init
loop-bound-init g c = (refl, raising-first _ _ _ _ _ _ c.in_ok-below.ensures)

pub reopen-requires-clause-few : goal.reopen-requires-clause-few
reopen-requires-clause-few g c = omega (arith, raising-few (g.S.SearchSpace.search_tree _) (g.S.SearchSpace.node_runs _) _ _ _ _ _ _ c.loop-bound.invariant.1 (omega arith) c.requires.few c.requires.used)

pub traverse-requires-clause-used : goal.traverse-requires-clause-used
traverse-requires-clause-used g c = omega (arith, raising-few (g.S.SearchSpace.search_tree _) (g.S.SearchSpace.node_runs _) _ _ _ _ _ _ c.loop-bound.invariant.1 (omega arith) c.requires.few c.requires.used, c.in_ok-reopen.ensures.ok.2)

pub returns-in_err-traverse-clause-used : goal.returns-in_err-traverse-clause-used
returns-in_err-traverse-clause-used g c =
    visited-walk g.S.SearchSpace.search_tree g.S.SearchSpace.node_runs _ _ _ _ _ _ _ _ _ _ _ _ c.loop-bound.invariant.1 c.loop-bound-test.true (c.reopen.ensures.problem ∙ c.loop-bound.invariant.0) c.in_ok-reopen.ensures.ok.0 c.in_ok-reopen.ensures.ok.2 c.traverse.ensures.used

pub returns-in-Found-clause-used : goal.returns-in-Found-clause-used
returns-in-Found-clause-used g c =
    visited-walk g.S.SearchSpace.search_tree g.S.SearchSpace.node_runs _ _ _ _ _ _ _ _ _ _ _ _ c.loop-bound.invariant.1 c.loop-bound-test.true (c.reopen.ensures.problem ∙ c.loop-bound.invariant.0) c.in_ok-reopen.ensures.ok.0 c.in_ok-reopen.ensures.ok.2 c.traverse.ensures.used

pub returns-in-Spent-clause-used : goal.returns-in-Spent-clause-used
returns-in-Spent-clause-used g c =
    visited-walk g.S.SearchSpace.search_tree g.S.SearchSpace.node_runs _ _ _ _ _ _ _ _ _ _ _ _ c.loop-bound.invariant.1 c.loop-bound-test.true (c.reopen.ensures.problem ∙ c.loop-bound.invariant.0) c.in_ok-reopen.ensures.ok.0 c.in_ok-reopen.ensures.ok.2 c.traverse.ensures.used

pub loop-bound-preserved : goal.loop-bound-preserved
loop-bound-preserved g c = (
  c.traverse.ensures.problem ∙ (c.reopen.ensures.problem ∙ c.loop-bound.invariant.0),
  raising-more g.S.SearchSpace.search_tree g.S.SearchSpace.node_runs _ _ _ _ _ _ _ _ _ _ _ _ _ _ c.in-Refuted.tree c.loop-bound.invariant.1 c.loop-bound-test.true (c.reopen.ensures.problem ∙ c.loop-bound.invariant.0) c.in_ok-reopen.ensures.ok.0 c.in_ok-reopen.ensures.ok.2
      c.traverse.ensures.used c.in_ok-traverse.ensures.walked c.in-Refuted.is,
)
