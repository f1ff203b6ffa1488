use Rattle.cpt_block.specs.Blocks.{older_row}
use Rattle.cpt_cells.proofs.Rowing.{flat_next}
use Rattle.cpt_cells.proofs.rows.push_older.Goals as goal

pub loop-x-preserved : goal.loop-x-preserved
loop-x-preserved c = flat_next (older_row c.args.cells.now.sheet c.args.kind) c.args.found.now.items c.loop-x.found.items _ c.loop-x.x c.loop-x.invariant c.in_ok-push_older_row.ensures
