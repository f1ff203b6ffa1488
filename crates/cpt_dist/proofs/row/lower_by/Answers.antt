use Rattle.cpt_dist.proofs.MovingLemmas.{still}
use Rattle.cpt_dist.proofs.RowLemmas.{falls_by_action, met_by_action}
use Rattle.cpt_dist.proofs.row.lower_by.Goals as goal

pub returns-clause-falls : goal.returns-clause-falls
returns-clause-falls c =
    falls_by_action c.args.row.now c.lower_all.new.row c.args.action.now c.requires.atoms
    (rw (c.limit_of-limit.ensures.value, c.as_slice.ensures.items) at c.lower_all.ensures.falls)

pub returns-clause-met : goal.returns-clause-met
returns-clause-met c = λ e.
    met_by_action c.args.row.now c.lower_all.new.row c.args.action.now (still c.args.row.now c.lower_all.new.row c.lower_all.result e c.lower_all.ensures.moves)
    (rw (c.limit_of-limit.ensures.value, c.as_slice.ensures.items) at c.lower_all.ensures.met)
