use Rattle.std.specs.Prelude.{ℕ, ◌==◌, Bool, true, false, if◌then◌else◌, map, drop, List, [], ◌∷◌}
use Rattle.cpt_pddl.specs.declared.typed.Typed.{Typed}
use Rattle.cpt_declared.specs.declared.declared.Declared.{Declared}
use Rattle.cpt_schema.specs.declared.durations.Lasting.{Lasting}
use Rattle.cpt_schema.specs.declared.durations.Lasting.TheVariants.{Fixed, Value}
use Rattle.cpt_schema.specs.declared.schemas.Schema.{Schema}
use Rattle.cpt_domain.specs.declared.domain.Domain.{Domain}
use Rattle.cpt_domain.specs.declared.domain.TypeDecl.{TypeDecl}
use Rattle.cpt_domain.specs.declared.domain.ObjectDecl.{ObjectDecl}
use Rattle.cpt_domain.specs.declared.domain.Predicate.{Predicate}
use Rattle.cpt_domain.specs.declared.domain.Function.{Function}
use Rattle.cpt_domain.specs.Reading.{object_decls}

-- the names and the parents of types, by number
abbrev pub type_names : List TypeDecl → List (List ℕ)
type_names types = map (λ (t : TypeDecl). t.name) types

-- the parents of the types
abbrev pub type_parents : List TypeDecl → List ℕ
type_parents types = map (λ (t : TypeDecl). t.parent) types

-- the names and the types of objects, by number
abbrev pub object_names : List ObjectDecl → List (List ℕ)
object_names objects = map (λ (o : ObjectDecl). o.name) objects

-- the types of the objects
abbrev pub object_kinds : List ObjectDecl → List ℕ
object_kinds objects = map (λ (o : ObjectDecl). o.kind) objects

-- the names of predicates, and the types of the variables of each
abbrev pub predicate_names : List Predicate → List (List ℕ)
predicate_names predicates = map (λ (p : Predicate). p.name) predicates

-- the types of the predicates' parameters
abbrev pub predicate_kinds : List Predicate → List (List ℕ)
predicate_kinds predicates = map (λ (p : Predicate). p.kinds) predicates

-- the names of functions, and the types of the variables of each
abbrev pub function_names : List Function → List (List ℕ)
function_names functions = map (λ (f : Function). f.name) functions

-- the types of the functions' parameters
abbrev pub function_kinds : List Function → List (List ℕ)
function_kinds functions = map (λ (f : Function). f.kinds) functions

-- what a domain declares
abbrev pub declared_of : Domain → Declared
declared_of d =
    record {
      types = record { names = type_names d.types; parents = type_parents d.types };
      constants = record { names = object_names d.constants; kinds = object_kinds d.constants };
      predicates = record { names = predicate_names d.predicates; kinds = predicate_kinds d.predicates };
      functions = record { names = function_names d.functions; kinds = function_kinds d.functions };
    }

-- the objects that come after so many others
abbrev pub objects_after : ℕ → Typed → List ObjectDecl
objects_after count objects = drop count (object_decls objects.names objects.kinds)

-- a duration is the value of this function
abbrev pub names_function : Lasting → ℕ → Bool
names_function (Fixed n) func = false
names_function (Value f terms) func = f == func

-- some schema's duration is the value of this function
abbrev pub is_duration_function : List Schema → ℕ → Bool
is_duration_function [] func = false
is_duration_function (s ∷ ss) func = if names_function s.dur func then true else is_duration_function ss func
