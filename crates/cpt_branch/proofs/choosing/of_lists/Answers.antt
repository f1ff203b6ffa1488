use Rattle.std.proofs.Common.{arith, length}
use Rattle.cpt_branch.specs.Choosing.{IsOfToken}
use Rattle.cpt_branch.proofs.ChoosingLemmas.{first-all, first-below, first-next}
use Rattle.cpt_branch.proofs.choosing.of_lists.Goals as goal

pub loop-x-init : goal.loop-x-init
loop-x-init c = first-below c.args.store.now.sheet (IsOfToken c.args.store.now.task c.args.store.now.sheet)

pub loop-x-preserved : goal.loop-x-preserved
loop-x-preserved c =
    first-next c.args.store.now.sheet (IsOfToken c.args.store.now.task c.args.store.now.sheet) c.loop-x.x c.loop-x.first c.of_token-found.result c.earlier-first.result c.loop-x.invariant c.of_token-found.ensures c.earlier-first.ensures

pub returns : goal.returns
returns c =
    first-all c.args.store.now.sheet (IsOfToken c.args.store.now.task c.args.store.now.sheet) c.loop-x.x (length c.args.store.now.sheet.tokens) c.loop-x.first (omega arith) (omega arith) c.loop-x.invariant
