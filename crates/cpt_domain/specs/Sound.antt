use Rattle.std.specs.Prelude.{ℕ, ◌≤◌, map, List, length, All}
use Rattle.cpt_schema.specs.declared.schemas.Schema.{Schema}
use Rattle.cpt_domain.specs.declared.domain.Domain.{Domain}
use Rattle.cpt_domain.specs.declared.domain.Function.{Function}
use Rattle.cpt_domain.specs.declared.domain.ObjectDecl.{ObjectDecl}
use Rattle.cpt_domain.specs.declared.domain.Predicate.{Predicate}
use Rattle.cpt_domain.specs.declared.domain.TypeDecl.{TypeDecl}
use Rattle.cpt_domain.specs.SoundKinds.{AreBelow, AreKinds, AreVariables}
use Rattle.cpt_domain.specs.SoundNames.{HasDifferentNames, HasWordNames}
use Rattle.cpt_domain.specs.SoundSchemas.{IsSoundSchema}

-- So many types and constants, the parents of the types and the types of the constants, the variables of predicates
-- and functions, and the actions fit together: the types form a tree below object, each number is in range, each
-- atom has its terms, and no limit is passed.
pub record FitTogether (types objects : ℕ) (parents kinds : List ℕ) (predicates functions : List (List ℕ)) (schemas : List Schema) : Type 0 where
  pub tree : AreKinds types parents
  pub constants : AreBelow types kinds
  pub few : objects ≤ 4096
  pub predicate_variables : All (AreVariables types) predicates
  pub function_variables : All (AreVariables types) functions
  pub actions : All (IsSoundSchema types objects predicates functions) schemas

-- the variables of the predicates and of the functions of a domain
abbrev pub predicate_kinds : Domain → List (List ℕ)
predicate_kinds d = map (λ (p : Predicate). p.kinds) d.predicates

-- the types of the functions' parameters
abbrev pub function_kinds : Domain → List (List ℕ)
function_kinds d = map (λ (f : Function). f.kinds) d.functions

-- the parts of a domain fit together
abbrev pub Fits : Domain → Type 0
Fits d =
    FitTogether (length d.types) (length d.constants) (map (λ (t : TypeDecl). t.parent) d.types) (map (λ (o : ObjectDecl). o.kind) d.constants)
    (predicate_kinds d) (function_kinds d) d.schemas

-- the domain is sound: its parts fit together, and the names of each kind are different and words
pub record IsSound (d : Domain) : Type 0 where
  pub fit : Fits d
  pub names : HasDifferentNames d
  pub words : HasWordNames d
