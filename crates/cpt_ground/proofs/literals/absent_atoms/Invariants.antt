use Rattle.std.proofs.Common.{◌≡◌, ◌++◌, take}
use Rattle.std.specs.Prelude.{flat_map}
use Rattle.cpt_ground.specs.Atoms.{facts_of}
use Rattle.cpt_ground.specs.Signed.{SignedAction}
use Rattle.cpt_ground.proofs.literals.absent_atoms.Given as goal

abbrev pub invariant-loop-action : goal.invariant-loop-action
invariant-loop-action l = facts_of l.atoms.items ≡ l.signed.absent ++ flat_map (λ (a : SignedAction). a.absent) (take l.action-index l.signed.actions)
