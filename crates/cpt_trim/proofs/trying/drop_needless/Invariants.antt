use Rattle.std.proofs.Common.{ℕ, List, Bor, map}
use Rattle.cpt_trim.specs.Fates.{AreTold, kept_in}
use Rattle.cpt_trim.proofs.trying.drop_needless.Given as goal

abbrev pub invariant-rounds : goal.invariant-rounds
invariant-rounds l = AreTold l.fn.task l.fates (map (λ (b : Bor (List ℕ)). b.now) l.bodies) l.tail

abbrev pub decreases-rounds : goal.decreases-rounds
decreases-rounds l = kept_in l.fates
