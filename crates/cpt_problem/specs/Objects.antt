use Rattle.std.specs.Prelude.{ℕ, nat_lt, if◌then◌else◌, List, [], ◌∷◌, ◌++◌, length, slice_get, slice_index, slice_index_or, Option, None, Some, Result, Ok, Err}
use Rattle.cpt_pddl.specs.declared.fault.Fault.{Fault}
use Rattle.cpt_pddl.specs.declared.fault.Fault.TheVariants.{Shape, BadName, BadType, Arity}
use Rattle.cpt_pddl.specs.declared.typed.Typed.{Typed}
use Rattle.cpt_pddl.specs.Faults.{◌>>=◌, or_fault}
use Rattle.cpt_pddl.specs.Items.{Items, end, word, group}
use Rattle.cpt_pddl.specs.Kinds.{is_below}
use Rattle.cpt_pddl.specs.Names.{place_in}
use Rattle.cpt_pddl.specs.Words.{is_name, is_variable}
use Rattle.cpt_declared.specs.declared.declared.Declared.{Declared}
use Rattle.cpt_declared.specs.declared.signatures.Signatures.{Signatures}
use Rattle.cpt_schema.specs.Terms.{extra_term}
use Rattle.cpt_facts.specs.declared.problem.Fact.{Fact}
use Rattle.cpt_problem.specs.declared.atoms.Filled.{Filled}

-- an object with its type, where it is declared
abbrev pub object_by : Typed → ℕ → Option ℕ → Result (ℕ × ℕ) Fault
object_by objects at None = Err (BadName at)
object_by objects at (Some number) = Ok (number, slice_index objects.kinds number)

-- the object that a word names, with its type; a variable names none
unfoldable pub object_at : Typed → ℕ → List ℕ → Result (ℕ × ℕ) Fault
object_at objects at bytes =
    if is_variable bytes then Err (BadName at)
    else if is_name bytes then object_by objects at (place_in objects.names bytes)
    else Err (Shape at)

-- an object of a wanted type
unfoldable pub typed_object : Declared → ℕ → ℕ → List ℕ → Result ℕ Fault
typed_object declared wanted at bytes = do
  found ← object_at declared.constants at bytes
  if is_below declared.types.parents found.1 wanted then Ok found.0 else Err (BadType at)

-- the next object of an atom, of the wanted type where one more is wanted
abbrev pub next_object : Declared → ℕ → Option ℕ → ℕ → List ℕ → Result ℕ Fault
next_object declared atom None at bytes = Err (extra_term atom at bytes)
next_object declared atom (Some wanted) at bytes = typed_object declared wanted at bytes

-- the rest of the objects of an atom, which begins at a byte and wants objects of these types
abbrev pub objects_rest : Declared → ℕ → List ℕ → List ℕ → Items → Result (List ℕ) Fault
objects_rest declared atom wanted args (end close) = if nat_lt (length args) (length wanted) then Err (Arity atom) else Ok args
objects_rest declared atom wanted args (word at bytes rest) =
    next_object declared atom (slice_get wanted (length args)) at bytes >>= (λ object. objects_rest declared atom wanted (args ++ object ∷ []) rest)
objects_rest declared atom wanted args (group at inside rest) = Err (Shape at)

-- the objects of an atom
unfoldable pub objects_in : Declared → ℕ → List ℕ → Items → Result (List ℕ) Fault
objects_in declared atom wanted items = objects_rest declared atom wanted [] items

-- a predicate or function, which the word at a byte names, with its objects
unfoldable pub applied : Declared → Signatures → ℕ → ℕ → List ℕ → Items → Result Filled Fault
applied declared sigs atom at bytes rest = do
  number ← or_fault (BadName at) (place_in sigs.names bytes)
  args ← objects_in declared atom (slice_index_or sigs.kinds number []) rest
  Ok (record { number = number; args = args })

-- an atom
unfoldable pub atom_in : Declared → ℕ → ℕ → List ℕ → Items → Result Fact Fault
atom_in declared atom at bytes rest =
    if is_name bytes then applied declared declared.predicates atom at bytes rest >>= (λ found. Ok (record { pred = found.number; args = found.args }))
    else Err (Shape at)

-- what is in the group of a function with its objects, which begins at a byte
abbrev pub function_term : Declared → ℕ → Items → Result Filled Fault
function_term declared atom (end close) = Err (Shape close)
function_term declared atom (word at bytes rest) =
    if is_name bytes then applied declared declared.functions atom at bytes rest else Err (Shape at)
function_term declared atom (group at inside rest) = Err (Shape at)
