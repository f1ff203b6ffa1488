use Rattle.std.proofs.Common.{get_or, length}
use Rattle.cpt_branch.specs.Choosing.{IsOfList}
use Rattle.cpt_branch.proofs.ChoosingLemmas.{first-all, first-below, first-next}
use Rattle.cpt_branch.proofs.ListLemmas.{lists-of-token}
use Rattle.cpt_branch.proofs.choosing.of_token.Goals as goal

pub loop-need-init : goal.loop-need-init
loop-need-init c = first-below c.args.store.now.sheet (λ i. IsOfList c.args.store.now.task c.args.store.now.sheet c.args.x (get_or c.needs-needs.result.now i 0))

pub loop-need-preserved : goal.loop-need-preserved
loop-need-preserved c =
    first-next c.args.store.now.sheet (λ i. IsOfList c.args.store.now.task c.args.store.now.sheet c.args.x (get_or c.needs-needs.result.now i 0)) c.loop-need.need-index c.loop-need.first c.of_list-found.result c.earlier-first.result
    c.loop-need.invariant c.of_list-found.ensures c.earlier-first.ensures

pub returns : goal.returns
returns c =
    lists-of-token c.args.store.now.task c.args.store.now.sheet c.args.x c.needs-needs.result.now c.loop-need.first c.needs-needs.ensures
    (first-all c.args.store.now.sheet (λ i. IsOfList c.args.store.now.task c.args.store.now.sheet c.args.x (get_or c.needs-needs.result.now i 0)) c.loop-need.need-index (length c.needs-needs.result.now) c.loop-need.first
    c.loop-need.auto.need-index-end c.loop-need-test.false c.loop-need.invariant)
