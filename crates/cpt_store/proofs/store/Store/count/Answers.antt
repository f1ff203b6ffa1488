use Rattle.std.proofs.Common.{arith}
use Rattle.cpt_store.proofs.StoreLemmas.{list_small}
use Rattle.cpt_store.proofs.store.Store.count.Goals as goal

pub overflow_cast-result : goal.overflow_cast-result
overflow_cast-result c =
    omega (arith, c.count.ensures, list_small c.self.inside.task c.self.inside.cells.sheet c.args.tok c.args.pre c.self.invariant.held.sheet.formed c.self.invariant.acts c.self.invariant.held.sheet.few)
