use Rattle.std.proofs.Common.{◌≡◌}
use Rattle.cpt_pddl.specs.Items.{left, size}
use Rattle.cpt_declared.specs.Signatures.{predicates_in}
use Rattle.cpt_declared.proofs.signatures.predicates_in.Given as goal

abbrev pub invariant-items : goal.invariant-items
invariant-items l = predicates_in l.types l.sigs (left l.here) ≡ predicates_in l.types l.fn.known (left l.place)

abbrev pub decreases-items : goal.decreases-items
decreases-items l = size (left l.here)
