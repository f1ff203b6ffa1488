use Rattle.std.specs.Prelude.{ℕ, Bool, true, false, if◌then◌else◌, map, List, [], ◌∷◌, ◌++◌, Result, Ok, Err, codes}
use Rattle.std.specs.List.{zip}
use Rattle.std.specs.Str.{bytes_eq}
use Rattle.cpt_sexp.specs.Grammar.{ForestShape}
use Rattle.cpt_pddl.specs.declared.fault.Feature.TheVariants as features
use Rattle.cpt_pddl.specs.declared.fault.Fault.{Fault}
use Rattle.cpt_pddl.specs.declared.fault.Fault.TheVariants.{Shape, Twice, Feature}
use Rattle.cpt_pddl.specs.declared.typed.Sort.TheVariants.{Objects}
use Rattle.cpt_pddl.specs.Faults.{◌>>=◌}
use Rattle.cpt_pddl.specs.Items.{Items, end, word, group, said_by}
use Rattle.cpt_pddl.specs.Reading.{after_word, group_at, name_at, nothing}
use Rattle.cpt_pddl.specs.Typed.{no_names, typed_list}
use Rattle.cpt_declared.specs.declared.declared.Declared.{Declared}
use Rattle.cpt_declared.specs.Kinds.{kinds_in, object_alone}
use Rattle.cpt_declared.specs.Signatures.{functions_in, no_signatures, predicates_in, words_only}
use Rattle.cpt_schema.specs.declared.schemas.Schema.{Schema}
use Rattle.cpt_schema.specs.Schemas.{schema_in}
use Rattle.cpt_domain.specs.declared.domain.Domain.{Domain}
use Rattle.cpt_domain.specs.declared.domain.TypeDecl.{TypeDecl}
use Rattle.cpt_domain.specs.declared.domain.ObjectDecl.{ObjectDecl}
use Rattle.cpt_domain.specs.declared.domain.Predicate.{Predicate}
use Rattle.cpt_domain.specs.declared.domain.Function.{Function}
use Rattle.cpt_domain.specs.declared.error.DomainError.{DomainError}
use Rattle.cpt_domain.specs.declared.keys.Key.{Key}
use Rattle.cpt_domain.specs.declared.keys.Key.TheVariants as keys
use Rattle.cpt_domain.specs.declared.keys.Section.{Section}
use Rattle.cpt_domain.specs.declared.keys.Section.TheVariants.{Requirements, Types, Constants, Predicates, Functions}
use Rattle.cpt_domain.specs.declared.keys.Seen.{Seen}
use Rattle.cpt_domain.specs.Errors.{of_domain}

-- a section of a domain that is not taken
abbrev pub is_untaken : List ℕ → Bool
is_untaken bytes =
    if bytes_eq bytes (codes ":derived") then true
    else if bytes_eq bytes (codes ":constraints") then true
    else if bytes_eq bytes (codes ":process") then true
    else bytes_eq bytes (codes ":event")

-- what a word says where it begins a part of a domain
unfoldable pub key_of : List ℕ → Key
key_of bytes =
    if bytes_eq bytes (codes ":requirements") then keys.Section Requirements
    else if bytes_eq bytes (codes ":types") then keys.Section Types
    else if bytes_eq bytes (codes ":constants") then keys.Section Constants
    else if bytes_eq bytes (codes ":predicates") then keys.Section Predicates
    else if bytes_eq bytes (codes ":functions") then keys.Section Functions
    else if bytes_eq bytes (codes ":action") then keys.Action false
    else if bytes_eq bytes (codes ":durative-action") then keys.Action true
    else if is_untaken bytes then keys.Untaken
    else keys.Other

-- before the first section
abbrev pub unseen : Seen
unseen = record { requirements = false; types = false; constants = false; predicates = false; functions = false }

-- the section stood before
abbrev pub is_seen : Seen → Section → Bool
is_seen seen Requirements = seen.requirements
is_seen seen Types = seen.types
is_seen seen Constants = seen.constants
is_seen seen Predicates = seen.predicates
is_seen seen Functions = seen.functions

-- the section stands
abbrev pub with_section : Seen → Section → Seen
with_section seen Requirements = record seen { requirements = true }
with_section seen Types = record seen { types = true }
with_section seen Constants = record seen { constants = true }
with_section seen Predicates = record seen { predicates = true }
with_section seen Functions = record seen { functions = true }

-- what is declared before the first section
abbrev pub nothing_declared : Declared
nothing_declared = record { types = object_alone; constants = no_names; predicates = no_signatures; functions = no_signatures }

-- what a section declares; the byte of the section, and what follows its keyword
abbrev pub section_in : Section → Declared → ℕ → Items → Result Declared Fault
section_in Requirements declared at items = words_only items >>= (λ _. Ok declared)
section_in Types declared at items = kinds_in at items >>= (λ types. Ok (record declared { types = types }))
section_in Constants declared at items =
    typed_list Objects declared.types.names no_names items >>= (λ constants. Ok (record declared { constants = constants }))
section_in Predicates declared at items =
    predicates_in declared.types.names no_signatures items >>= (λ sigs. Ok (record declared { predicates = sigs }))
section_in Functions declared at items =
    functions_in declared.types.names no_signatures items >>= (λ sigs. Ok (record declared { functions = sigs }))

-- A domain so far: what is declared, which sections stood, the names of its actions, its actions, and whether one
-- stood.
pub record Part : Type 0 where
  pub declared : Declared
  pub seen : Seen
  pub names : List (List ℕ)
  pub schemas : List Schema
  pub acting : Bool

-- a domain of which nothing is read yet
abbrev pub nothing_read : Part
nothing_read = record { declared = nothing_declared; seen = unseen; names = []; schemas = []; acting = false }

-- a section, which stands before the actions and once; its byte, and that of its keyword
unfoldable pub with_declared : Section → Part → ℕ → ℕ → Items → Result Part Fault
with_declared section so_far at keyword items =
    if so_far.acting then Err (Shape keyword)
    else if is_seen so_far.seen section then Err (Twice at)
    else do
      declared ← section_in section so_far.declared at items
      Ok (record so_far { declared = declared; seen = with_section so_far.seen section })

-- an action, durative or not
unfoldable pub with_action : Bool → Part → Items → Result Part Fault
with_action durative so_far items = do
  schema ← schema_in durative so_far.declared so_far.names items
  Ok (record so_far { names = so_far.names ++ schema.name ∷ []; schemas = so_far.schemas ++ schema ∷ []; acting = true })

-- a part of a domain by its first word; its byte, and that of this word
abbrev pub part_by : Part → ℕ → ℕ → Items → Key → Result Part Fault
part_by so_far at keyword items (keys.Section section) = with_declared section so_far at keyword items
part_by so_far at keyword items (keys.Action durative) = with_action durative so_far items
part_by so_far at keyword items keys.Untaken = Err (if so_far.acting then Shape keyword else Feature features.Section at)
part_by so_far at keyword items keys.Other = Err (Shape keyword)

-- what is in the group of a part of a domain
abbrev pub part_in : Part → ℕ → Items → Result Part Fault
part_in so_far at (end close) = Err (Shape close)
part_in so_far at (word keyword bytes rest) = part_by so_far at keyword rest (key_of bytes)
part_in so_far at (group a inside rest) = Err (Shape a)

-- the rest of the parts of a domain
abbrev pub parts_in : Part → Items → Result Part Fault
parts_in so_far (end close) = Ok so_far
parts_in so_far (word at bytes rest) = Err (Shape at)
parts_in so_far (group at inside rest) = part_in so_far at inside >>= (λ more. parts_in more rest)

-- the name of a domain, in its group
unfoldable pub name_in : Items → Result (List ℕ) Fault
name_in items = do
  rest ← after_word (codes "domain") items
  name ← name_at rest
  _ ← nothing name.2
  Ok name.1

-- names with a number each, made declarations
abbrev pub type_decls : List (List ℕ) → List ℕ → List TypeDecl
type_decls names parents = map (λ (p : List ℕ × ℕ). record { name = p.0; parent = p.1 }) (zip names parents)

-- objects of these names and types
abbrev pub object_decls : List (List ℕ) → List ℕ → List ObjectDecl
object_decls names kinds = map (λ (p : List ℕ × ℕ). record { name = p.0; kind = p.1 }) (zip names kinds)

-- names with types each, made predicates or functions
abbrev pub predicate_list : List (List ℕ) → List (List ℕ) → List Predicate
predicate_list names kinds = map (λ (p : List ℕ × List ℕ). record { name = p.0; kinds = p.1 }) (zip names kinds)

-- functions of these names and parameter types
abbrev pub function_list : List (List ℕ) → List (List ℕ) → List Function
function_list names kinds = map (λ (p : List ℕ × List ℕ). record { name = p.0; kinds = p.1 }) (zip names kinds)

-- a domain of its parts
abbrev pub assembled : List ℕ → Part → Domain
assembled name whole =
    record {
      name = name;
      types = type_decls whole.declared.types.names whole.declared.types.parents;
      constants = object_decls whole.declared.constants.names whole.declared.constants.kinds;
      predicates = predicate_list whole.declared.predicates.names whole.declared.predicates.kinds;
      schemas = whole.schemas;
      functions = function_list whole.declared.functions.names whole.declared.functions.kinds;
    }

-- what is in the group of a domain
unfoldable pub definition : Items → Result Domain Fault
definition items = do
  rest ← after_word (codes "define") items
  head ← group_at rest
  name ← name_in head.1
  whole ← parts_in nothing_read head.2
  Ok (assembled name whole)

-- a text that is one domain
unfoldable pub domain_in : Items → Result Domain Fault
domain_in items = do
  found ← group_at items
  domain ← definition found.1
  _ ← nothing found.2
  Ok domain

-- the domain that a parsed text is, or its first fault from left to right
unfoldable pub domain_of : ForestShape → Result Domain DomainError
domain_of forest = of_domain (domain_in (said_by forest))
