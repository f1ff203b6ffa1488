use Rattle.std.proofs.Common.{◌≡◌}
use Rattle.cpt_block.specs.Blocks.{action_adders}
use Rattle.cpt_cells.proofs.rosters.adders_of.Given as goal

abbrev pub invariant-loop-a : goal.invariant-loop-a
invariant-loop-a l = l.list.items ≡ action_adders l.task l.p l.a
