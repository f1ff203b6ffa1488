use Rattle.cpt_index.specs.Lists.{IsRival}
use Rattle.cpt_index.proofs.IndexLemmas.{rivals_seen}
use Rattle.cpt_store.specs.Stores.{StoreShape}
use Rattle.cpt_store.proofs.StoreLemmas.{seen}
use Rattle.cpt_store.proofs.store.Store.rivals.Goals as goal

pub returns : goal.returns
returns c =
    seen (λ (h : StoreShape). IsRival h.task h.sheet c.args.act) c.args.self.now _ _ _ c.self.view_is c.rivals.ensures
    (rivals_seen c.self.inside.task c.self.inside.cells.sheet c.self.inside.index c.args.act c.self.invariant.held.indexed)
