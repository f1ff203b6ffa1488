use Rattle.cpt_ground.proofs.AtomLemmas.{sorted_once}
use Rattle.cpt_ground.proofs.atoms.in_order.Goals as goal

pub returns-clause-sorted : goal.returns-clause-sorted
returns-clause-sorted c =
    sorted_once c.args.atoms.items c.sort_unstable.new.self.items c.dedup.new.self.items c.sort_unstable.ensures.permutation c.sort_unstable.ensures.sorted c.dedup.ensures.filtered
