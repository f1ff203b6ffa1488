use Rattle.std.proofs.Common.{◌∙◌}
use Rattle.cpt_search.proofs.TraversalLemmas.{advance-depth, advance-fits, advanced}
use Rattle.cpt_search.proofs.walk.advance.Goals as goal

pub go_back-requires : goal.go_back-requires
go_back-requires g c = advance-depth g.S.SearchSpace.search_tree g.S.SearchSpace.node_runs _ _ _ _ _ _ c.args.next c.requires.at

pub decide-requires-clause-fits : goal.decide-requires-clause-fits
decide-requires-clause-fits g c = advance-fits g.S.SearchSpace.search_tree g.S.SearchSpace.node_runs _ _ _ _ _ _ _ _ _ c.args.next c.requires.at c.go_back.ensures.problem c.go_back.ensures.bound c.go_back.ensures.decisions

pub returns-clause-advanced : goal.returns-clause-advanced
returns-clause-advanced g c =
    advanced g.S.SearchSpace.search_tree g.S.SearchSpace.node_runs _ _ _ _ _ _ _ _ _ _ _ _ _ c.args.next c.in_ok-leaf.leaf c.requires.at
    (c.decide.ensures.problem ∙ c.go_back.ensures.problem) (c.decide.ensures.bound ∙ c.go_back.ensures.bound) c.in_ok-decide.ensures.ok.0 c.go_back.ensures.decisions c.in_ok-push.ensures.items c.in_ok-leaf.ensures
