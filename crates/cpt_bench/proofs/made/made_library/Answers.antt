use Rattle.std.proofs.Common.{List, ◌∷◌, [], ◌++◌, ap, ◌∙◌}
use Rattle.cpt_io.specs.Entries.{Entry}
use Rattle.cpt_io.specs.InMemory.{mem_holds}
use Rattle.cpt_bench.proofs.Holding.{holds_made, two_files}
use Rattle.cpt_bench.proofs.made.made_library.Goals as goal

pub returns-clause-holds : goal.returns-clause-holds
returns-clause-holds c =
    holds_made c.args.n (mem_holds c.new-2.result) c.push-2.new.self.items c.new-2.ensures.holds
    (two_files c.args.n c.push-2.new.self.items c.from_vec.result c.from_vec-2.result c.into_vec.result c.into_vec-2.result
    (c.in_ok-push-2.ensures.items
    ∙ ap (λ (z : List Entry). z ++ (c.from_vec-2.result, c.into_vec-2.result) ∷ []) (c.in_ok-push.ensures.items ∙ ap (λ (z : List Entry). z ++ (c.from_vec.result, c.into_vec.result) ∷ []) c.new-files.ensures.items))
    (c.from_vec.ensures ∙ c.in_ok-domain_name.ensures.items) (c.from_vec-2.ensures ∙ c.in_ok-problem_name.ensures.items) (c.into_vec.ensures ∙ c.in_ok-made.ensures.domain) (c.into_vec-2.ensures ∙ c.in_ok-made.ensures.problem))
