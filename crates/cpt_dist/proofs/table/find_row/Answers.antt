use Rattle.cpt_dist.proofs.table.find_row.Goals as goal

pub lower-requires-clause-atoms : goal.lower-requires-clause-atoms
lower-requires-clause-atoms c = rw (c.start.auto.row, c.requires.size, c.actions.ensures.value) c.actions.ensures.bounds.actions
