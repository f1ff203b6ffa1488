use Rattle.std.specs.Prelude.{◌≡◌, ℕ, ◌+◌, ◌<◌, ◌≤◌, List, [], length, All, slice_index_or}
use Rattle.cpt_schema.specs.declared.conditions.Test.{Test}
use Rattle.cpt_schema.specs.declared.durations.Lasting.{Lasting}
use Rattle.cpt_schema.specs.declared.durations.Lasting.TheVariants.{Fixed, Value}
use Rattle.cpt_schema.specs.declared.schemas.Schema.{Schema}
use Rattle.cpt_schema.specs.declared.terms.Lit.{Lit}
use Rattle.cpt_schema.specs.declared.terms.Term.{Term}
use Rattle.cpt_schema.specs.declared.terms.Term.TheVariants.{Param, Object}
use Rattle.cpt_domain.specs.SoundKinds.{AreVariables}

-- a term is one of so many parameters or of so many objects
abbrev pub IsTerm : (params objects : ℕ) → Term → Type 0
IsTerm params objects (Param n) = n < params
IsTerm params objects (Object n) = n < objects

-- one of these predicates or functions, by the types of their variables, with a term for each variable
pub record IsApplied (params objects : ℕ) (kinds : List (List ℕ)) (number : ℕ) (terms : List Term) : Type 0 where
  pub known : number < length kinds
  pub arity : length terms ≡ length (slice_index_or kinds number [])
  pub fit : All (IsTerm params objects) terms

-- an atom of one of these predicates
abbrev pub IsLit : (params objects : ℕ) → List (List ℕ) → Lit → Type 0
IsLit params objects kinds lit = IsApplied params objects kinds lit.pred lit.terms

-- a test of two terms
pub record IsTest (params objects : ℕ) (test : Test) : Type 0 where
  pub on_left : IsTerm params objects test.left
  pub on_right : IsTerm params objects test.right

-- a duration from 1 to 100,000, or the value of one of these functions
abbrev pub IsLasting : (params objects : ℕ) → List (List ℕ) → Lasting → Type 0
IsLasting params objects kinds (Fixed n) = (1 ≤ n) × (n ≤ 100000)
IsLasting params objects kinds (Value func terms) = IsApplied params objects kinds func terms

-- An action is sound, where there are so many types and objects, and predicates and functions with these variables:
-- each number is in range, each atom has its terms, and no list is too long.
pub record IsSoundSchema (types objects : ℕ) (predicates functions : List (List ℕ)) (s : Schema) : Type 0 where
  pub kinds : AreVariables types s.kinds
  pub dur : IsLasting (length s.kinds) objects functions s.dur
  pub pre : All (IsLit (length s.kinds) objects predicates) s.pre
  pub absent : All (IsLit (length s.kinds) objects predicates) s.absent
  pub add : All (IsLit (length s.kinds) objects predicates) s.add
  pub dele : All (IsLit (length s.kinds) objects predicates) s.dele
  pub tests : All (IsTest (length s.kinds) objects) s.tests
  pub few_conditions : length s.pre + length s.absent ≤ 64
  pub few_adds : length s.add ≤ 64
  pub few_deletes : length s.dele ≤ 64
