use Rattle.std.proofs.Common.{get_or, length, sym, ◌∙◌}
use Rattle.cpt_branch.specs.Choosing.{IsClashWith}
use Rattle.cpt_branch.proofs.ChoosingLemmas.{first-all, first-below, first-next}
use Rattle.cpt_branch.proofs.FirstLemmas.{rivals-of-token}
use Rattle.cpt_branch.proofs.choosing.clash_of.Goals as goal

pub loop-rival-init : goal.loop-rival-init
loop-rival-init c = first-below c.args.store.now.sheet (λ i. IsClashWith c.args.store.now.task c.args.store.now.sheet c.args.x (get_or c.rivals-rivals.result.now i 0))

pub loop-rival-preserved : goal.loop-rival-preserved
loop-rival-preserved c =
    first-next c.args.store.now.sheet (λ i. IsClashWith c.args.store.now.task c.args.store.now.sheet c.args.x (get_or c.rivals-rivals.result.now i 0)) c.loop-rival.rival-index c.loop-rival.first c.clash_with-found.result c.earlier-first.result
    c.loop-rival.invariant c.clash_with-found.ensures c.earlier-first.ensures

pub returns : goal.returns
returns c =
    rivals-of-token c.args.store.now.task c.args.store.now.sheet c.args.x c.in-Act.act c.rivals-rivals.result.now c.loop-rival.first (sym c.kind_at.ensures ∙ c.in-Act.is) c.rivals-rivals.ensures
    (first-all c.args.store.now.sheet (λ i. IsClashWith c.args.store.now.task c.args.store.now.sheet c.args.x (get_or c.rivals-rivals.result.now i 0)) c.loop-rival.rival-index (length c.rivals-rivals.result.now) c.loop-rival.first
    c.loop-rival.auto.rival-index-end c.loop-rival-test.false c.loop-rival.invariant)
