use Rattle.std.proofs.Common.{◌≡◌, map, take}
use Rattle.cpt_ground.specs.Atoms.{facts_of}
use Rattle.cpt_ground.specs.Literals.{name_with}
use Rattle.cpt_ground.proofs.literal_names.names_with.Given as goal

abbrev pub invariant-loop-atom : goal.invariant-loop-atom
invariant-loop-atom l = l.names.items ≡ map (name_with l.domain l.problem l.front) (facts_of (take l.atom-index l.atoms))
