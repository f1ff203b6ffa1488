use Rattle.cpt_tables.specs.Admissible.{nth_action, IsAtOnce}
use Rattle.cpt_tables.proofs.AtomScans.{least_later, within_later}
use Rattle.cpt_tables.proofs.dists.least_distance.Goals as goal

pub returns-else-is_at_once-clause-least : goal.returns-else-is_at_once-clause-least
returns-else-is_at_once-clause-least c =
    let not_once : IsAtOnce c.args.pairs.now (nth_action c.args.task.now c.args.act) c.args.p → ⊥ = rw (c.served_action.ensures.action) at c.if-is_at_once.ensures in
    least_later c.args.task.now c.args.pairs.now c.args.dists.now c.args.act c.args.p c.least_after.result not_once c.least_after.ensures

pub returns-else-is_at_once-clause-within : goal.returns-else-is_at_once-clause-within
returns-else-is_at_once-clause-within c =
    let not_once : IsAtOnce c.args.pairs.now (nth_action c.args.task.now c.args.act) c.args.p → ⊥ = rw (c.served_action.ensures.action) at c.if-is_at_once.ensures in
    within_later c.args.task.now c.args.pairs.now c.args.dists.now c.args.act c.args.p c.least_after.result not_once c.least_after.ensures
