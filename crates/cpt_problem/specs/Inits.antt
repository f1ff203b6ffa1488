use Rattle.std.specs.Prelude.{ℕ, ◌==◌, nat_le, Bool, true, false, ◌&&◌, if◌then◌else◌, is_some, List, [], ◌∷◌, ◌++◌, Option, None, Some, Result, Ok, Err}
use Rattle.cpt_pddl.specs.declared.fault.Feature.TheVariants as features
use Rattle.cpt_pddl.specs.declared.fault.Fault.{Fault}
use Rattle.cpt_pddl.specs.declared.fault.Fault.TheVariants.{Shape, Twice, Duration, Feature}
use Rattle.cpt_pddl.specs.declared.words.Head.{Head}
use Rattle.cpt_pddl.specs.declared.words.Head.TheVariants.{And, Not, Equal, At, Over, Untaken, Numeric, Other}
use Rattle.cpt_pddl.specs.Faults.{◌>>=◌}
use Rattle.cpt_pddl.specs.Items.{Items, end, word, group}
use Rattle.cpt_pddl.specs.Reading.{nothing}
use Rattle.cpt_pddl.specs.Words.{head_of, number_in}
use Rattle.cpt_declared.specs.declared.declared.Declared.{Declared}
use Rattle.cpt_schema.specs.declared.schemas.Schema.{Schema}
use Rattle.cpt_facts.specs.declared.problem.Fact.{Fact}
use Rattle.cpt_facts.specs.declared.problem.Valued.{Valued}
use Rattle.cpt_problem.specs.declared.atoms.Filled.{Filled}
use Rattle.cpt_problem.specs.Objects.{atom_in, function_term}
use Rattle.cpt_problem.specs.Tables.{is_duration_function}

-- what holds at first: atoms, and values of functions
pub record Beginning : Type 0 where
  pub facts : List Fact
  pub values : List Valued

-- no fact and no value yet
abbrev pub nothing_begun : Beginning
nothing_begun = record { facts = []; values = [] }

-- two lists of objects are one
abbrev pub same_args : List ℕ → List ℕ → Bool
same_args [] [] = true
same_args [] (b ∷ bs) = false
same_args (a ∷ as') [] = false
same_args (a ∷ as') (b ∷ bs) = (a == b) && same_args as' bs

-- the function has a value for these objects
abbrev pub has_value : List Valued → ℕ → List ℕ → Bool
has_value [] func args = false
has_value (v ∷ vs) func args = if (v.func == func) && same_args v.args args then true else has_value vs func args

-- a function with objects for which there is no value yet; the byte of the item
abbrev pub unless_known : List Valued → ℕ → Filled → Result (Unit {0}) Fault
unless_known values item term = if has_value values term.number term.args then Err (Twice item) else Ok tt

-- a number that can be a value; one that is the duration of a schema is from 1 to 100,000
abbrev pub is_value : Bool → ℕ → Bool
is_value lasting n = if lasting then nat_le 1 n && nat_le n 100000 else nat_le n 4294967295

-- the number that the word stands for, where it may be the value of the function
abbrev pub value_by : Bool → ℕ → Option ℕ → Result ℕ Fault
value_by lasting at None = Err (Duration at)
value_by lasting at (Some n) = if is_value lasting n then Ok n else Err (Duration at)

-- the one number of a value
abbrev pub value_in : Bool → Items → Result ℕ Fault
value_in lasting (end close) = Err (Shape close)
value_in lasting (word at bytes rest) = value_by lasting at (number_in bytes) >>= (λ n. nothing rest >>= (λ _. Ok n))
value_in lasting (group at inside rest) = Err (Shape at)

-- a function with its objects, whose group begins at a byte, and its value; the byte of the item
unfoldable pub value_at : List Schema → Declared → List Valued → ℕ → ℕ → Items → Items → Result Valued Fault
value_at schemas declared values item at inside rest = do
  term ← function_term declared at inside
  _ ← unless_known values item term
  value ← value_in (is_duration_function schemas term.number) rest
  Ok (record { func = term.number; args = term.args; value = value })

-- what follows the sign of an equation
abbrev pub equation : List Schema → Declared → List Valued → ℕ → Items → Result Valued Fault
equation schemas declared values item (end close) = Err (Feature features.Numeric item)
equation schemas declared values item (word at bytes rest) = Err (Feature features.Numeric item)
equation schemas declared values item (group at inside rest) = value_at schemas declared values item at inside rest

-- a number is first
abbrev pub is_timed : Items → Bool
is_timed (end close) = false
is_timed (word at bytes rest) = is_some (number_in bytes)
is_timed (group at inside rest) = false

-- one more atom, and one more value
unfoldable pub with_fact : Declared → Beginning → ℕ → ℕ → List ℕ → Items → Result Beginning Fault
with_fact declared begun item at bytes rest = do
  fact ← atom_in declared item at bytes rest
  Ok (record begun { facts = begun.facts ++ fact ∷ [] })

-- one more value, of the equation in this group
unfoldable pub with_value : List Schema → Declared → Beginning → ℕ → Items → Result Beginning Fault
with_value schemas declared begun item rest = do
  value ← equation schemas declared begun.values item rest
  Ok (record begun { values = begun.values ++ value ∷ [] })

-- what holds at first, by its first word
abbrev pub init_by : List Schema → Declared → Beginning → ℕ → ℕ → List ℕ → Items → Head → Result Beginning Fault
init_by schemas declared begun item at bytes rest And = with_fact declared begun item at bytes rest
init_by schemas declared begun item at bytes rest Not = Err (Feature features.Negative item)
init_by schemas declared begun item at bytes rest Equal = with_value schemas declared begun item rest
init_by schemas declared begun item at bytes rest At =
    if is_timed rest then Err (Feature features.Timed item) else with_fact declared begun item at bytes rest
init_by schemas declared begun item at bytes rest Over = with_fact declared begun item at bytes rest
init_by schemas declared begun item at bytes rest (Untaken which) = with_fact declared begun item at bytes rest
init_by schemas declared begun item at bytes rest Numeric = with_fact declared begun item at bytes rest
init_by schemas declared begun item at bytes rest Other = with_fact declared begun item at bytes rest

-- what is in the group of an atom or of a value, which begins at a byte
abbrev pub init_in : List Schema → Declared → Beginning → ℕ → Items → Result Beginning Fault
init_in schemas declared begun item (end close) = Err (Shape close)
init_in schemas declared begun item (word at bytes rest) = init_by schemas declared begun item at bytes rest (head_of bytes)
init_in schemas declared begun item (group at inside rest) = Err (Shape at)

-- the rest of what holds at first
abbrev pub inits_in : List Schema → Declared → Beginning → Items → Result Beginning Fault
inits_in schemas declared begun (end close) = Ok begun
inits_in schemas declared begun (word at bytes rest) = Err (Shape at)
inits_in schemas declared begun (group item inside rest) =
    init_in schemas declared begun item inside >>= (λ more. inits_in schemas declared more rest)
