use Rattle.std.proofs.Common.{◌≡◌}
use Rattle.cpt_tables.specs.Admissible.{nth_action}
use Rattle.cpt_layout.specs.Places.{table}
use Rattle.cpt_cells.proofs.rosters.all_pre.Given as goal

abbrev pub invariant-loop-a : goal.invariant-loop-a
invariant-loop-a l = l.lists.items ≡ table (λ a. (nth_action l.task a).pre) 0 l.a
