use Rattle.cpt_h2.proofs.rules.read_action.Goals as goal

pub returns-clause-near : goal.returns-clause-near
returns-clause-near c = rw (c.pairs.ensures, c.as_slice.ensures.items) at c.fill.ensures

pub returns-clause-top : goal.returns-clause-top
returns-clause-top c = rw (c.pairs-2.ensures, c.as_slice-2.ensures.items) at c.fill-2.ensures
