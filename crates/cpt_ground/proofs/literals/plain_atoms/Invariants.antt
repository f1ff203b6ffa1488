use Rattle.std.proofs.Common.{◌≡◌, ◌++◌, take}
use Rattle.std.specs.Prelude.{flat_map}
use Rattle.cpt_ground.specs.Atoms.{facts_of}
use Rattle.cpt_ground.specs.Literals.{plain_of}
use Rattle.cpt_ground.proofs.literals.plain_atoms.Given as goal

abbrev pub invariant-loop-action : goal.invariant-loop-action
invariant-loop-action l = facts_of l.atoms.items ≡ (l.signed.init ++ l.signed.goal) ++ flat_map plain_of (take l.action-index l.signed.actions)
