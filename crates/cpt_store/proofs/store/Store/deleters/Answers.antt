use Rattle.cpt_index.specs.Lists.{IsDeleter}
use Rattle.cpt_index.proofs.IndexLemmas.{deleters_seen}
use Rattle.cpt_store.specs.Stores.{StoreShape}
use Rattle.cpt_store.proofs.StoreLemmas.{seen}
use Rattle.cpt_store.proofs.store.Store.deleters.Goals as goal

pub returns : goal.returns
returns c =
    seen (λ (h : StoreShape). IsDeleter h.task h.sheet c.args.p) c.args.self.now _ _ _ c.self.view_is c.deleters.ensures
    (deleters_seen c.self.inside.task c.self.inside.cells.sheet c.self.inside.index c.args.p c.self.invariant.held.indexed)
