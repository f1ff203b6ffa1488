use Rattle.std.proofs.Common.{◌≡◌}
use Rattle.cpt_pddl.specs.Items.{left, size}
use Rattle.cpt_schema.specs.Terms.{terms_in, terms_rest}
use Rattle.cpt_schema.proofs.terms.terms_in.Given as goal

abbrev pub invariant-items : goal.invariant-items
invariant-items l = terms_rest l.declared l.params l.atom l.wanted l.terms.items (left l.here) ≡ terms_in l.declared l.params l.atom l.wanted (left l.place)

abbrev pub decreases-items : goal.decreases-items
decreases-items l = size (left l.here)
