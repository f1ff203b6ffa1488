use Rattle.std.proofs.Common.{◌≡◌}
use Rattle.cpt_pddl.specs.Items.{left, size}
use Rattle.cpt_declared.specs.Signatures.{functions_in, functions_rest}
use Rattle.cpt_declared.proofs.signatures.functions_in.Given as goal

abbrev pub invariant-items : goal.invariant-items
invariant-items l = functions_rest l.last l.types l.sigs (left l.here) ≡ functions_in l.types l.fn.known (left l.place)

abbrev pub decreases-items : goal.decreases-items
decreases-items l = size (left l.here)
