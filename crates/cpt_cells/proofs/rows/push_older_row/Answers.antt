use Rattle.std.proofs.Common.{ℕ, ◌∙◌, ap}
use Rattle.cpt_layout.proofs.Laying.{row_next}
use Rattle.cpt_block.specs.Blocks.{bit, is_beside, list_in}
use Rattle.cpt_cells.proofs.rows.push_older_row.Goals as goal

pub loop-j-preserved : goal.loop-j-preserved
loop-j-preserved c =
    row_next (λ (j : ℕ). bit (is_beside c.args.kind (list_in c.args.cells.now.sheet c.args.x j))) c.args.found.now.items c.loop-j.found.items _ c.loop-j.j _ c.loop-j.invariant c.in_ok-push.ensures.items
    (c.bit.ensures ∙ ap bit c.is_beside.ensures)
