use Rattle.std.proofs.Common.{◌≡◌}
use Rattle.cpt_pddl.specs.Items.{left, size}
use Rattle.cpt_pddl.specs.Runs.{run_of}
use Rattle.cpt_pddl.specs.Typed.{typed_list, typed_rest}
use Rattle.cpt_pddl.proofs.typed.typed_list.Given as goal

abbrev pub invariant-items : goal.invariant-items
invariant-items l = typed_rest l.sort l.types (run_of l.run) (left l.here) ≡ typed_list l.sort l.types l.fn.known (left l.place)

abbrev pub decreases-items : goal.decreases-items
decreases-items l = size (left l.here)
