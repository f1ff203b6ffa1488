use Rattle.cpt_index.specs.Lists.{IsOffer}
use Rattle.cpt_index.proofs.IndexLemmas.{offers_seen}
use Rattle.cpt_store.specs.Stores.{StoreShape}
use Rattle.cpt_store.proofs.StoreLemmas.{seen}
use Rattle.cpt_store.proofs.store.Store.offers.Goals as goal

pub returns : goal.returns
returns c =
    seen (λ (h : StoreShape). IsOffer h.task h.sheet c.args.p) c.args.self.now _ _ _ c.self.view_is c.offers.ensures
    (offers_seen c.self.inside.task c.self.inside.cells.sheet c.self.inside.index c.args.p c.self.invariant.held.indexed)
