use Rattle.std.specs.Prelude.{◌≡◌, ℕ, ◌≤◌, List, length, map, All}
use Rattle.cpt_domain.specs.declared.domain.Domain.{Domain}
use Rattle.cpt_facts.specs.declared.problem.Fact.{Fact}
use Rattle.cpt_facts.specs.declared.problem.Problem.{Problem}
use Rattle.cpt_facts.specs.Fitting.{FactFits}
use Rattle.cpt_task.specs.Shape.{TaskShape, IsDuration}
use Rattle.cpt_ground.specs.Compiled.{Literal, IsCompiledBy, literal_name}
use Rattle.cpt_ground.specs.Signed.{Signed, SignedAction}

-- at most so many atoms, each of a predicate of the domain with its objects
pub record AreAtoms (d : Domain) (p : Problem) (most : ℕ) (facts : List Fact) : Type 0 where
  pub fit : All (FactFits d p) facts
  pub few : length facts ≤ most

-- an action that lasts from 1 to 100,000, with at most 64 atoms in each list
pub record ActionFits (d : Domain) (p : Problem) (a : SignedAction) : Type 0 where
  pub dur : IsDuration a.dur
  pub present : AreAtoms d p 64 a.present
  pub absent : AreAtoms d p 64 a.absent
  pub add : AreAtoms d p 64 a.add
  pub dele : AreAtoms d p 64 a.dele

-- What a reading with absence of a sound domain and a problem that fits it is: its atoms are atoms of the two, and
-- there are so few of them and of the actions that the task's numbers are in range.
pub record IsCompilable (d : Domain) (p : Problem) (s : Signed) : Type 0 where
  pub init : AreAtoms d p 16777215 s.init
  pub goal : AreAtoms d p 16777215 s.goal
  pub absent : AreAtoms d p 16777215 s.absent
  pub actions : All (ActionFits d p) s.actions
  pub few_actions : length s.actions ≤ 1000000

-- the ground task of a reading, with its literals and their names
abbrev pub IsTaskOf : Domain → Problem → Signed → TaskShape → Type 0
IsTaskOf d p s t = (literals : List Literal) × IsCompiledBy s literals t × (t.atoms ≡ map (literal_name d p) literals)
