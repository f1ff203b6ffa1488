use Rattle.std.specs.Prelude.{◌↔◌, ℕ, Option, List, map, position, AllPairs, Contains}
use Rattle.cpt_facts.specs.declared.problem.Fact.{Fact}
use Rattle.cpt_ground.specs.declared.atoms.Atom.{Atom}
use Rattle.cpt_ground.specs.Compiled.{IsFactBefore}
use Rattle.cpt_ground.specs.Signed.{same_fact}

-- the ground atom that stands elsewhere, and those of a list
abbrev pub fact_of : Atom → Fact
fact_of a = record { pred = a.pred; args = a.args.now }

-- the facts of atoms
abbrev pub facts_of : List Atom → List Fact
facts_of atoms = map fact_of atoms

-- the atoms of a list, each once, in order
pub record AreInOrder (atoms sorted : List Fact) : Type 0 where
  pub ordered : AllPairs IsFactBefore sorted
  pub exact : (f : Fact) → Contains sorted f ↔ Contains atoms f

-- the place of an atom in a list
unfoldable pub place_of : List Fact → Fact → Option ℕ
place_of xs f = position (same_fact f) xs
