use Rattle.std.proofs.Common.{◌≡◌}
use Rattle.cpt_pddl.specs.Items.{left, size}
use Rattle.cpt_declared.specs.Signatures.{words_only}
use Rattle.cpt_declared.proofs.signatures.words_only.Given as goal

abbrev pub invariant-items : goal.invariant-items
invariant-items l = words_only (left l.here) ≡ words_only (left l.place)

abbrev pub decreases-items : goal.decreases-items
decreases-items l = size (left l.here)
