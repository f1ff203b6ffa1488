use Rattle.std.proofs.Common.{ℕ}
use Rattle.cpt_tables.specs.Admissible.{nth_action}
use Rattle.cpt_cells.proofs.TaskLists.{table_next}
use Rattle.cpt_cells.proofs.rosters.all_pre.Goals as goal

pub loop-a-preserved : goal.loop-a-preserved
loop-a-preserved c = table_next (λ (a : ℕ). (nth_action c.args.task.now a).pre) c.loop-a.lists.items _ c.loop-a.a _ c.loop-a.invariant c.in_ok-push.ensures.items c.in_ok-pre_of.ensures
