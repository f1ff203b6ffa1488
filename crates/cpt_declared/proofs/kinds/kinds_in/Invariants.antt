use Rattle.std.proofs.Common.{◌≡◌}
use Rattle.cpt_pddl.specs.Items.{left, size}
use Rattle.cpt_declared.specs.KindRuns.{run_of}
use Rattle.cpt_declared.specs.Kinds.{kinds_in, kinds_rest}
use Rattle.cpt_declared.proofs.kinds.kinds_in.Given as goal

abbrev pub invariant-items : goal.invariant-items
invariant-items l = kinds_rest l.section (run_of l.run) (left l.here) ≡ kinds_in l.section (left l.place)

abbrev pub decreases-items : goal.decreases-items
decreases-items l = size (left l.here)
