use Rattle.std.proofs.Common.{◌≡◌, length}
use Rattle.cpt_layout.specs.Places.{table}
use Rattle.cpt_block.specs.Blocks.{action_adders}
use Rattle.cpt_cells.proofs.rosters.all_adders.Given as goal

abbrev pub invariant-loop-p : goal.invariant-loop-p
invariant-loop-p l = l.lists.items ≡ table (λ p. action_adders l.task p (length l.task.actions)) 0 l.p
