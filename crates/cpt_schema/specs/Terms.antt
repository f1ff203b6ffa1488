use Rattle.std.specs.Prelude.{ℕ, ◌==◌, nat_lt, Bool, true, false, ◌&&◌, ◌||◌, if◌then◌else◌, List, [], ◌∷◌, ◌++◌, length, slice_get, slice_index, slice_index_or, Option, None, Some, Result, Ok, Err}
use Rattle.cpt_task.specs.declared.memory.Limit.TheVariants as limits
use Rattle.cpt_pddl.specs.declared.fault.Fault.{Fault}
use Rattle.cpt_pddl.specs.declared.fault.Fault.TheVariants.{Shape, BadName, BadType, Arity, Limit}
use Rattle.cpt_pddl.specs.declared.typed.Typed.{Typed}
use Rattle.cpt_pddl.specs.Faults.{◌>>=◌, or_fault}
use Rattle.cpt_pddl.specs.Items.{Items, end, word, group}
use Rattle.cpt_pddl.specs.Kinds.{is_below}
use Rattle.cpt_pddl.specs.Names.{place_in}
use Rattle.cpt_pddl.specs.Words.{is_name, is_variable}
use Rattle.cpt_declared.specs.declared.declared.Declared.{Declared}
use Rattle.cpt_declared.specs.declared.signatures.Signatures.{Signatures}
use Rattle.cpt_schema.specs.declared.terms.Lit.{Lit}
use Rattle.cpt_schema.specs.declared.terms.Term.{Term}
use Rattle.cpt_schema.specs.declared.terms.Term.TheVariants.{Param, Object}

-- a parameter with its type, where it is declared
abbrev pub param_at : Typed → ℕ → Option ℕ → Result (Term × ℕ) Fault
param_at params at None = Err (BadName at)
param_at params at (Some number) = Ok (Param number, slice_index params.kinds number)

-- a constant with its type, where it is declared
abbrev pub object_at : Typed → ℕ → Option ℕ → Result (Term × ℕ) Fault
object_at constants at None = Err (BadName at)
object_at constants at (Some number) = Ok (Object number, slice_index constants.kinds number)

-- the term that a word is, with its type
unfoldable pub term_at : Declared → Typed → ℕ → List ℕ → Result (Term × ℕ) Fault
term_at declared params at bytes =
    if is_variable bytes then param_at params at (place_in params.names bytes)
    else if is_name bytes then object_at declared.constants at (place_in declared.constants.names bytes)
    else Err (Shape at)

-- one term more than there may be, of the atom at a byte
abbrev pub extra_term : ℕ → ℕ → List ℕ → Fault
extra_term atom at bytes = if is_variable bytes || is_name bytes then Arity atom else Shape at

-- a term of a wanted type
unfoldable pub typed_term : Declared → Typed → ℕ → ℕ → List ℕ → Result Term Fault
typed_term declared params wanted at bytes = do
  found ← term_at declared params at bytes
  if is_below declared.types.parents found.1 wanted then Ok found.0 else Err (BadType at)

-- the next term of an atom, of the wanted type where one more is wanted
abbrev pub next_term : Declared → Typed → ℕ → Option ℕ → ℕ → List ℕ → Result Term Fault
next_term declared params atom None at bytes = Err (extra_term atom at bytes)
next_term declared params atom (Some wanted) at bytes = typed_term declared params wanted at bytes

-- the rest of the terms of an atom, which begins at a byte and wants terms of these types
abbrev pub terms_rest : Declared → Typed → ℕ → List ℕ → List Term → Items → Result (List Term) Fault
terms_rest declared params atom wanted terms (end close) = if nat_lt (length terms) (length wanted) then Err (Arity atom) else Ok terms
terms_rest declared params atom wanted terms (word at bytes rest) =
    next_term declared params atom (slice_get wanted (length terms)) at bytes >>= (λ term. terms_rest declared params atom wanted (terms ++ term ∷ []) rest)
terms_rest declared params atom wanted terms (group at inside rest) = Err (Shape at)

-- the terms of an atom
unfoldable pub terms_in : Declared → Typed → ℕ → List ℕ → Items → Result (List Term) Fault
terms_in declared params atom wanted items = terms_rest declared params atom wanted [] items

-- a predicate or function, which the word at a byte names, with its terms
unfoldable pub applied : Declared → Typed → Signatures → ℕ → ℕ → List ℕ → Items → Result Lit Fault
applied declared params sigs atom at bytes rest = do
  number ← or_fault (BadName at) (place_in sigs.names bytes)
  terms ← terms_in declared params atom (slice_index_or sigs.kinds number []) rest
  Ok (record { pred = number; terms = terms })

-- an atom, unless the list that it is for is full
unfoldable pub atom_in : Declared → Typed → Bool → ℕ → ℕ → List ℕ → Items → Result Lit Fault
atom_in declared params full atom at bytes rest =
    if is_name bytes then
    if full then Err (Limit limits.LongList atom) else applied declared params declared.predicates atom at bytes rest
    else Err (Shape at)

-- two terms are one
abbrev pub same_term : Term → Term → Bool
same_term (Param a) (Param b) = a == b
same_term (Param a) (Object b) = false
same_term (Object a) (Param b) = false
same_term (Object a) (Object b) = a == b

-- two lists of terms are one
abbrev pub same_terms : List Term → List Term → Bool
same_terms [] [] = true
same_terms [] (b ∷ bs) = false
same_terms (a ∷ as') [] = false
same_terms (a ∷ as') (b ∷ bs) = same_term a b && same_terms as' bs

-- two atoms are one, word for word
abbrev pub same_lit : Lit → Lit → Bool
same_lit a b = (a.pred == b.pred) && same_terms a.terms b.terms
