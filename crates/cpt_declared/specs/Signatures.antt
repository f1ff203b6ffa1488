use Rattle.std.specs.Prelude.{ℕ, Bool, true, false, if◌then◌else◌, is_some, List, [], ◌∷◌, ◌++◌, Result, Ok, Err, codes}
use Rattle.std.specs.Str.{bytes_eq}
use Rattle.cpt_declared.specs.declared.signatures.Signatures.{Signatures}
use Rattle.cpt_declared.specs.declared.signatures.Sort.{Sort}
use Rattle.cpt_declared.specs.declared.signatures.Sort.TheVariants.{Predicates, Functions}
use Rattle.cpt_declared.specs.declared.signatures.Last.{Last}
use Rattle.cpt_declared.specs.declared.signatures.Last.TheVariants.{Start, Behind, Dash}
use Rattle.cpt_pddl.specs.declared.fault.Fault.{Fault}
use Rattle.cpt_pddl.specs.declared.fault.Fault.TheVariants.{Shape, BadName, Twice}
use Rattle.cpt_pddl.specs.declared.words.Head.{Head}
use Rattle.cpt_pddl.specs.declared.words.Head.TheVariants.{And, Not, Equal, At, Over, Untaken, Numeric, Other}
use Rattle.cpt_pddl.specs.declared.typed.Sort.TheVariants.{Variables}
use Rattle.cpt_pddl.specs.Faults.{◌>>=◌}
use Rattle.cpt_pddl.specs.Items.{Items, end, word, group}
use Rattle.cpt_pddl.specs.Names.{place_in}
use Rattle.cpt_pddl.specs.Typed.{no_names, typed_list}
use Rattle.cpt_pddl.specs.Words.{head_of, is_name}

-- no predicates or functions
abbrev pub no_signatures : Signatures
no_signatures = record { names = []; kinds = [] }

-- a word of the language that names no predicate
abbrev pub is_reserved : Head → Bool
is_reserved And = true
is_reserved Not = true
is_reserved Equal = true
is_reserved At = false
is_reserved Over = true
is_reserved (Untaken which) = true
is_reserved Numeric = false
is_reserved Other = false

-- a word that may not name a predicate or a function
abbrev pub is_refused : Sort → List ℕ → Bool
is_refused Predicates bytes = is_reserved (head_of bytes)
is_refused Functions bytes = false

-- the name of a new predicate or function is in order
unfoldable pub new_name : Sort → List (List ℕ) → ℕ → List ℕ → Result (Unit {0}) Fault
new_name sort names at bytes =
    if is_refused sort bytes then Err (BadName at)
    else if is_name bytes then (if is_some (place_in names bytes) then Err (Twice at) else Ok tt)
    else Err (Shape at)

-- one more predicate or function, with the types of its variables
abbrev pub with_signature : Signatures → List ℕ → List ℕ → Signatures
with_signature sigs bytes kinds = record { names = sigs.names ++ bytes ∷ []; kinds = sigs.kinds ++ kinds ∷ [] }

-- a name and typed variables
unfoldable pub named_signature : Sort → List (List ℕ) → Signatures → ℕ → List ℕ → Items → Result Signatures Fault
named_signature sort types sigs at bytes rest = do
  _ ← new_name sort sigs.names at bytes
  typed ← typed_list Variables types no_names rest
  Ok (with_signature sigs bytes typed.kinds)

-- what is in the group of a predicate or function
abbrev pub signature : Sort → List (List ℕ) → Signatures → Items → Result Signatures Fault
signature sort types sigs (end close) = Err (Shape close)
signature sort types sigs (word at bytes rest) = named_signature sort types sigs at bytes rest
signature sort types sigs (group at inside rest) = Err (Shape at)

-- the predicates of a section, after those that are known
abbrev pub predicates_in : List (List ℕ) → Signatures → Items → Result Signatures Fault
predicates_in types sigs (end close) = Ok sigs
predicates_in types sigs (word at bytes rest) = Err (Shape at)
predicates_in types sigs (group at inside rest) =
    signature Predicates types sigs inside >>= (λ more. predicates_in types more rest)

-- what comes after a word between functions: behind a function a dash, and behind a dash the word number
abbrev pub after_word : Last → ℕ → List ℕ → Result Last Fault
after_word Start at bytes = Err (Shape at)
after_word Behind at bytes = if bytes_eq bytes (codes "-") then Ok Dash else Err (Shape at)
after_word Dash at bytes = if bytes_eq bytes (codes "number") then Ok Start else Err (Shape at)

-- the end of the functions
abbrev pub functions_end : Last → Signatures → ℕ → Result Signatures Fault
functions_end Start sigs close = Ok sigs
functions_end Behind sigs close = Ok sigs
functions_end Dash sigs close = Err (Shape close)

-- a group among the functions
abbrev pub function_at : Last → List (List ℕ) → Signatures → ℕ → Items → Result Signatures Fault
function_at Start types sigs at inside = signature Functions types sigs inside
function_at Behind types sigs at inside = signature Functions types sigs inside
function_at Dash types sigs at inside = Err (Shape at)

-- the rest of the functions of a section
abbrev pub functions_rest : Last → List (List ℕ) → Signatures → Items → Result Signatures Fault
functions_rest last types sigs (end close) = functions_end last sigs close
functions_rest last types sigs (word at bytes rest) = after_word last at bytes >>= (λ next. functions_rest next types sigs rest)
functions_rest last types sigs (group at inside rest) =
    function_at last types sigs at inside >>= (λ more. functions_rest Behind types more rest)

-- the functions of a section, after those that are known
unfoldable pub functions_in : List (List ℕ) → Signatures → Items → Result Signatures Fault
functions_in types sigs items = functions_rest Start types sigs items

-- words of any kind
abbrev pub words_only : Items → Result (Unit {0}) Fault
words_only (end close) = Ok tt
words_only (word at bytes rest) = words_only rest
words_only (group at inside rest) = Err (Shape at)
