use Rattle.cpt_tables.proofs.PairScans.{met_if_none}
use Rattle.cpt_tables.proofs.pairs.are_met.Goals as goal

pub returns-in-None : goal.returns-in-None
returns-in-None c = λ e. rw (c.as_slice.ensures.items, c.as_slice-2.ensures.items) at (met_if_none c.args.pairs.now c.as_slice.result.now c.as_slice-2.result.now c.args.most c.in-None.ensures)
