use Rattle.std.proofs.Common.{◌≡◌, take}
use Rattle.cpt_instance.specs.Instances.{ground_atoms}
use Rattle.cpt_ground.proofs.actions.ground_atoms.Given as goal

abbrev pub invariant-loop-lit : goal.invariant-loop-lit
invariant-loop-lit l = l.facts.items ≡ ground_atoms l.args (take l.lit-index l.lits)
