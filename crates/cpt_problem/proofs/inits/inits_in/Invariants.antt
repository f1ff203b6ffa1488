use Rattle.std.proofs.Common.{◌≡◌}
use Rattle.cpt_pddl.specs.Items.{left, size}
use Rattle.cpt_problem.specs.Inits.{inits_in, nothing_begun}
use Rattle.cpt_problem.specs.Shapes.{begun_of}
use Rattle.cpt_problem.proofs.inits.inits_in.Given as goal

abbrev pub invariant-items : goal.invariant-items
invariant-items l = inits_in l.schemas l.declared (begun_of l.inits) (left l.here) ≡ inits_in l.schemas l.declared nothing_begun (left l.place)

abbrev pub decreases-items : goal.decreases-items
decreases-items l = size (left l.here)
