use Rattle.std.proofs.Common.{◌≡◌}
use Rattle.cpt_calculus.specs.Root.{outs_at_root}
use Rattle.cpt_calculus.proofs.rooting.outs_of.Given as goal

abbrev pub invariant-loop-a : goal.invariant-loop-a
invariant-loop-a l = l.outs.items ≡ outs_at_root l.task l.tables l.bound l.a
