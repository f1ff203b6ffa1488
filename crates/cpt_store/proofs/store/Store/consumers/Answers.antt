use Rattle.cpt_index.specs.Lists.{IsConsumer}
use Rattle.cpt_index.proofs.IndexLemmas.{consumers_seen}
use Rattle.cpt_store.specs.Stores.{StoreShape}
use Rattle.cpt_store.proofs.StoreLemmas.{seen}
use Rattle.cpt_store.proofs.store.Store.consumers.Goals as goal

pub returns : goal.returns
returns c =
    seen (λ (h : StoreShape). IsConsumer h.sheet c.args.p) c.args.self.now _ _ _ c.self.view_is c.consumers.ensures
    (consumers_seen c.self.inside.task c.self.inside.cells.sheet c.self.inside.index c.args.p c.self.invariant.held.sheet.formed c.self.invariant.held.indexed)
