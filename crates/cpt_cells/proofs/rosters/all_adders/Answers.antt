use Rattle.std.proofs.Common.{ℕ, length}
use Rattle.cpt_block.specs.Blocks.{action_adders}
use Rattle.cpt_cells.proofs.TaskLists.{table_next}
use Rattle.cpt_cells.proofs.rosters.all_adders.Goals as goal

pub loop-p-preserved : goal.loop-p-preserved
loop-p-preserved c =
    table_next (λ (p : ℕ). action_adders c.args.task.now p (length c.args.task.now.actions)) c.loop-p.lists.items _ c.loop-p.p _ c.loop-p.invariant c.in_ok-push.ensures.items c.in_ok-adders_of.ensures
