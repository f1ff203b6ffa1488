use Rattle.std.proofs.Common.{◌≡◌, ◌++◌, take}
use Rattle.cpt_ground.specs.Atoms.{facts_of}
use Rattle.cpt_ground.proofs.atoms.push_atoms.Given as goal

abbrev pub invariant-loop-fact : goal.invariant-loop-fact
invariant-loop-fact l = facts_of l.atoms.items ≡ facts_of l.initial.atoms.items ++ take l.fact-index l.facts
