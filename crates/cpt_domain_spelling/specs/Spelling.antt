use Rattle.std.specs.Prelude.{ℕ, ◌+◌, Bool, true, false, map, List, [], ◌∷◌, codes}
use Rattle.std.specs.Fmt.{decimal}
use Rattle.cpt_sexp.specs.Printing.{Nest, nothing, name, list}
use Rattle.cpt_pddl.specs.declared.typed.Typed.{Typed}
use Rattle.cpt_declared.specs.declared.declared.Declared.{Declared}
use Rattle.cpt_declared.specs.declared.kinds.Kinds.{Kinds}
use Rattle.cpt_declared.specs.declared.signatures.Signatures.{Signatures}
use Rattle.cpt_schema.specs.declared.conditions.Test.{Test}
use Rattle.cpt_schema.specs.declared.durations.Lasting.{Lasting}
use Rattle.cpt_schema.specs.declared.durations.Lasting.TheVariants.{Fixed, Value}
use Rattle.cpt_schema.specs.declared.schemas.Schema.{Schema}
use Rattle.cpt_schema.specs.declared.terms.Lit.{Lit}
use Rattle.cpt_schema.specs.declared.terms.Term.{Term}
use Rattle.cpt_schema.specs.declared.terms.Term.TheVariants.{Param, Object}
use Rattle.cpt_domain.specs.declared.domain.Domain.{Domain}
use Rattle.cpt_domain.specs.declared.domain.Function.{Function}
use Rattle.cpt_domain.specs.declared.domain.ObjectDecl.{ObjectDecl}
use Rattle.cpt_domain.specs.declared.domain.Predicate.{Predicate}
use Rattle.cpt_domain.specs.declared.domain.TypeDecl.{TypeDecl}
use Rattle.cpt_domain_spelling.specs.Names.{named}
use Rattle.cpt_domain_spelling.specs.Siblings.{Siblings, siblings_nest}

-- a variable is spelled as a question mark and its number
abbrev pub variable : ℕ → List ℕ
variable number = 63 ∷ decimal number

-- variables of these types, with the numbers from one on
abbrev pub variables_from : ℕ → List ℕ → List (List ℕ)
variables_from number [] = []
variables_from number (kind ∷ kinds) = variable number ∷ variables_from (number + 1) kinds

-- the parameters of an action, of these types
abbrev pub parameters_of : List ℕ → Typed
parameters_of kinds = record { names = variables_from 0 kinds; kinds = kinds }

-- names or variables, each followed by a dash and its type
abbrev pub typed_nest : List (List ℕ) → List (List ℕ) → List ℕ → Nest
typed_nest types [] kinds = nothing
typed_nest types (w ∷ names) [] = nothing
typed_nest types (w ∷ names) (kind ∷ kinds) = name w (name (codes "-") (name (named types kind) (typed_nest types names kinds)))

-- variables of these types
abbrev pub variables_nest : List (List ℕ) → List ℕ → Nest
variables_nest types kinds = typed_nest types (variables_from 0 kinds) kinds

-- predicates or functions, each in its group with its variables
abbrev pub signatures_nest : List (List ℕ) → List (List ℕ) → List (List ℕ) → Nest
signatures_nest types [] kinds = nothing
signatures_nest types (w ∷ names) [] = nothing
signatures_nest types (w ∷ names) (variables ∷ kinds) = list (name w (variables_nest types variables)) (signatures_nest types names kinds)

-- a term: a parameter, or the name of a constant
abbrev pub term_word : Declared → Term → List ℕ
term_word declared (Param number) = variable number
term_word declared (Object number) = named declared.constants.names number

-- the words of terms
abbrev pub terms_nest : Declared → List Term → Nest
terms_nest declared [] = nothing
terms_nest declared (term ∷ terms) = name (term_word declared term) (terms_nest declared terms)

-- one of these predicates or functions with its terms
abbrev pub applied_nest : Declared → List (List ℕ) → ℕ → List Term → Nest
applied_nest declared names number terms = name (named names number) (terms_nest declared terms)

-- an atom: its predicate, then its terms
abbrev pub atom_nest : Declared → Lit → Nest
atom_nest declared lit = applied_nest declared declared.predicates.names lit.pred lit.terms

-- what is in a group, with not before it where it is negated
abbrev pub signed_nest : Bool → Nest → Nest
signed_nest true inside = inside
signed_nest false inside = name (codes "not") (list inside nothing)

-- two terms are one
abbrev pub equation_nest : Declared → Test → Nest
equation_nest declared test = name (codes "=") (name (term_word declared test.left) (name (term_word declared test.right) nothing))

-- atoms, or negated atoms, each in its group, and then the rest
abbrev pub atoms_then : Bool → Declared → List Lit → Nest → Nest
atoms_then positive declared [] rest = rest
atoms_then positive declared (lit ∷ lits) rest = list (signed_nest positive (atom_nest declared lit)) (atoms_then positive declared lits rest)

-- tests, each in its group
abbrev pub tests_nest : Declared → List Test → Nest
tests_nest declared [] = nothing
tests_nest declared (test ∷ tests) = list (signed_nest test.equal (equation_nest declared test)) (tests_nest declared tests)

-- the atoms that are to be there, those that are to be absent, and the tests
abbrev pub conditions_nest : Declared → Schema → Nest
conditions_nest declared s =
    name (codes "and") (atoms_then true declared s.pre (atoms_then false declared s.absent (tests_nest declared s.tests)))

-- the atoms that are deleted, and those that are added
abbrev pub effects_nest : Declared → Schema → Nest
effects_nest declared s = name (codes "and") (atoms_then false declared s.dele (atoms_then true declared s.add nothing))

-- a number, or the value of a function
abbrev pub lasting_nest : Declared → Lasting → Nest
lasting_nest declared (Fixed n) = name (decimal n) nothing
lasting_nest declared (Value func terms) = list (applied_nest declared declared.functions.names func terms) nothing

-- what the duration is: `= ?duration` and the number or the function's value
abbrev pub duration_nest : Declared → Lasting → Nest
duration_nest declared lasting = name (codes "=") (name (codes "?duration") (lasting_nest declared lasting))

-- the parts of an action behind its name
abbrev pub effect_nest : Declared → Schema → Nest
effect_nest declared s = name (codes ":effect") (list (name (codes "at") (name (codes "end") (list (effects_nest declared s) nothing))) nothing)

-- the conditions over all of the action, then its effects
abbrev pub condition_nest : Declared → Schema → Nest
condition_nest declared s =
    name (codes ":condition") (list (name (codes "over") (name (codes "all") (list (conditions_nest declared s) nothing))) (effect_nest declared s))

-- the duration, then conditions and effects
abbrev pub timing_nest : Declared → Schema → Nest
timing_nest declared s = name (codes ":duration") (list (duration_nest declared s.dur) (condition_nest declared s))

-- an action with a duration: name, parameters, duration, conditions, effects
abbrev pub action_nest : Declared → Schema → Nest
action_nest declared s = name s.name (name (codes ":parameters") (list (variables_nest declared.types.names s.kinds) (timing_nest declared s)))

-- an action that takes one unit of time can be spelled without a duration
abbrev pub plain_nest : Declared → Schema → Nest
plain_nest declared s =
    name (codes ":precondition") (list (conditions_nest declared s) (name (codes ":effect") (list (effects_nest declared s) nothing)))

-- an action without a duration: name, parameters, conditions, effects
abbrev pub plain_action_nest : Declared → Schema → Nest
plain_action_nest declared s = name s.name (name (codes ":parameters") (list (variables_nest declared.types.names s.kinds) (plain_nest declared s)))

-- actions, each in its group: its conditions hold over all of it, and its effects come at its end
abbrev pub actions_nest : Declared → List Schema → Nest
actions_nest declared [] = nothing
actions_nest declared (s ∷ schemas) = list (name (codes ":durative-action") (action_nest declared s)) (actions_nest declared schemas)

-- what a domain declares: the names with their numbers
abbrev pub kinds_of : Domain → Kinds
kinds_of d = record { names = map (λ (t : TypeDecl). t.name) d.types; parents = map (λ (t : TypeDecl). t.parent) d.types }

-- the constants of a domain, names and types apart
abbrev pub constants_of : Domain → Typed
constants_of d = record { names = map (λ (o : ObjectDecl). o.name) d.constants; kinds = map (λ (o : ObjectDecl). o.kind) d.constants }

-- the predicates of a domain, names and types apart
abbrev pub predicates_of : Domain → Signatures
predicates_of d = record { names = map (λ (p : Predicate). p.name) d.predicates; kinds = map (λ (p : Predicate). p.kinds) d.predicates }

-- the functions of a domain, names and types apart
abbrev pub functions_of : Domain → Signatures
functions_of d = record { names = map (λ (f : Function). f.name) d.functions; kinds = map (λ (f : Function). f.kinds) d.functions }

-- what a domain declares beside its actions
abbrev pub declared_of : Domain → Declared
declared_of d = record { types = kinds_of d; constants = constants_of d; predicates = predicates_of d; functions = functions_of d }

-- the sections of what is declared, with the types in these groups, and then the rest
abbrev pub sections_then : Declared → List Siblings → Nest → Nest
sections_then declared groups rest =
    list (name (codes ":types") (siblings_nest declared.types.names groups))
    (list (name (codes ":constants") (typed_nest declared.types.names declared.constants.names declared.constants.kinds))
    (list (name (codes ":predicates") (signatures_nest declared.types.names declared.predicates.names declared.predicates.kinds))
    (list (name (codes ":functions") (signatures_nest declared.types.names declared.functions.names declared.functions.kinds)) rest)))

-- the spelling of a domain, with its types in these groups
abbrev pub domain_nest : Domain → List Siblings → Nest
domain_nest d groups =
    list (name (codes "define") (list (name (codes "domain") (name d.name nothing)) (sections_then (declared_of d) groups (actions_nest (declared_of d) d.schemas)))) nothing
