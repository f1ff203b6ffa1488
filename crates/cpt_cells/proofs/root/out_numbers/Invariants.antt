use Rattle.std.proofs.Common.{◌≡◌}
use Rattle.cpt_calculus.specs.Root.{out_at_root}
use Rattle.cpt_block.specs.Blocks.{flat}
use Rattle.cpt_cells.specs.Roots.{numbers_of}
use Rattle.cpt_cells.proofs.root.out_numbers.Given as goal

abbrev pub invariant-loop-a : goal.invariant-loop-a
invariant-loop-a l = l.found.items ≡ flat (λ a. numbers_of (out_at_root l.task l.tables l.bound a)) l.a
