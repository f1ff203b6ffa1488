use Rattle.std.proofs.Common.{◌≡◌}
use Rattle.cpt_pddl.specs.Items.{left, size}
use Rattle.cpt_problem.specs.Objects.{objects_in, objects_rest}
use Rattle.cpt_problem.proofs.atoms.objects_in.Given as goal

abbrev pub invariant-items : goal.invariant-items
invariant-items l = objects_rest l.declared l.atom l.wanted l.args.items (left l.here) ≡ objects_in l.declared l.atom l.wanted (left l.place)

abbrev pub decreases-items : goal.decreases-items
decreases-items l = size (left l.here)
