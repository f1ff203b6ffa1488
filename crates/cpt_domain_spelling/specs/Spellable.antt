use Rattle.std.specs.Prelude.{◌≡◌, ℕ, Bool, true, false, map, List, [], length, All, slice_index, slice_index_or, codes}
use Rattle.std.specs.List.{AllZip}
use Rattle.cpt_pddl.specs.declared.words.Head.{Head}
use Rattle.cpt_pddl.specs.declared.words.Head.TheVariants.{And, Not, Equal, At, Over, Untaken, Numeric, Other}
use Rattle.cpt_pddl.specs.Kinds.{is_below}
use Rattle.cpt_pddl.specs.Words.{head_of, is_name}
use Rattle.cpt_declared.specs.Signatures.{is_reserved}
use Rattle.cpt_declared.specs.declared.declared.Declared.{Declared}
use Rattle.cpt_schema.specs.declared.durations.Lasting.{Lasting}
use Rattle.cpt_schema.specs.declared.durations.Lasting.TheVariants.{Fixed, Value}
use Rattle.cpt_schema.specs.declared.schemas.Schema.{Schema}
use Rattle.cpt_schema.specs.declared.terms.Lit.{Lit}
use Rattle.cpt_schema.specs.declared.terms.Term.{Term}
use Rattle.cpt_schema.specs.declared.terms.Term.TheVariants.{Param, Object}
use Rattle.cpt_domain.specs.declared.domain.Domain.{Domain}
use Rattle.cpt_domain.specs.Sound.{IsSound}
use Rattle.cpt_domain.specs.SoundKinds.{IsSoundDeclared}
use Rattle.cpt_domain.specs.SoundNames.{AreDifferent}
use Rattle.cpt_domain.specs.SoundSchemas.{IsSoundSchema}
use Rattle.cpt_domain_spelling.specs.Names.{named}
use Rattle.cpt_domain_spelling.specs.Siblings.{IsArranged, Siblings}
use Rattle.cpt_domain_spelling.specs.Spelling.{declared_of}

-- each of these words begins with a letter
abbrev pub AreNames : List (List ℕ) → Type 0
AreNames words = All (λ w. is_name w ≡ true) words

-- names, no two of them one
pub record AreDistinct (words : List (List ℕ)) : Type 0 where
  pub names : AreNames words
  pub different : AreDifferent words

-- a word that begins an atom wherever it stands, and no other condition or effect
abbrev pub is_free : Head → Bool
is_free And = false
is_free Not = false
is_free Equal = false
is_free At = true
is_free Over = false
is_free (Untaken which) = false
is_free Numeric = false
is_free Other = true

-- none of these words is a reserved one
abbrev pub AreUnreserved : List (List ℕ) → Type 0
AreUnreserved words = All (λ w. is_reserved (head_of w) ≡ false) words

-- what is declared is sound, and has a spelling
pub record HasSpelling (d : Declared) : Type 0 where
  pub sound : IsSoundDeclared d
  pub types : AreDistinct d.types.names
  pub object : named d.types.names 0 ≡ codes "object"
  pub constants : AreDistinct d.constants.names
  pub predicates : AreDistinct d.predicates.names
  pub unreserved : AreUnreserved d.predicates.names
  pub functions : AreDistinct d.functions.names

-- the type of a term, where the parameters have these types
abbrev pub kind_of : Declared → List ℕ → Term → ℕ
kind_of declared params (Param number) = slice_index params number
kind_of declared params (Object number) = slice_index declared.constants.kinds number

-- each term is of the type that is wanted there, or of a type below it
abbrev pub AreOfTypes : Declared → List ℕ → List ℕ → List Term → Type 0
AreOfTypes declared params wanted terms = AllZip (λ term kind. is_below declared.types.parents (kind_of declared params term) kind ≡ true) terms wanted

-- the terms of the atom have the types of its predicate's parameters
abbrev pub IsTypedAtom : Declared → List ℕ → Lit → Type 0
IsTypedAtom declared params lit = AreOfTypes declared params (slice_index_or declared.predicates.kinds lit.pred []) lit.terms

-- a fixed duration, or a function's value at terms of its parameters' types
abbrev pub IsTypedLasting : Declared → List ℕ → Lasting → Type 0
IsTypedLasting declared params (Fixed n) = Unit {0}
IsTypedLasting declared params (Value func terms) = AreOfTypes declared params (slice_index_or declared.functions.kinds func []) terms

-- the name of an atom begins an atom wherever it stands
abbrev pub IsFreeAtom : Declared → Lit → Type 0
IsFreeAtom declared lit = is_free (head_of (named declared.predicates.names lit.pred)) ≡ true

-- the terms of an action are of the types that are wanted, and the names of the atoms that are to be there or are added
-- begin no other condition or effect
pub record IsTyped (declared : Declared) (s : Schema) : Type 0 where
  pub dur : IsTypedLasting declared s.kinds s.dur
  pub pre : All (IsTypedAtom declared s.kinds) s.pre
  pub absent : All (IsTypedAtom declared s.kinds) s.absent
  pub add : All (IsTypedAtom declared s.kinds) s.add
  pub dele : All (IsTypedAtom declared s.kinds) s.dele
  pub free_pre : All (IsFreeAtom declared) s.pre
  pub free_add : All (IsFreeAtom declared) s.add

-- an action is sound, over what is declared
abbrev pub IsSoundOver : Declared → Schema → Type 0
IsSoundOver d s = IsSoundSchema (length d.types.names) (length d.constants.names) d.predicates.kinds d.functions.kinds s

-- The names of a domain begin with letters, and those of its predicates are no reserved words; object is its first
-- type; and the atoms of its actions have terms of the types that are wanted, and names that can stand there.
pub record IsWellFormed (d : Domain) : Type 0 where
  pub name : is_name d.name ≡ true
  pub types : AreNames (declared_of d).types.names
  pub object : named (declared_of d).types.names 0 ≡ codes "object"
  pub constants : AreNames (declared_of d).constants.names
  pub predicates : AreNames (declared_of d).predicates.names
  pub unreserved : AreUnreserved (declared_of d).predicates.names
  pub functions : AreNames (declared_of d).functions.names
  pub actions : AreNames (map (λ (s : Schema). s.name) d.schemas)
  pub typed : All (IsTyped (declared_of d)) d.schemas

-- a domain has a spelling, with its types in these groups: it is sound and well formed, and its types but object stand
-- in these groups with the numbers that they have
pub record IsSpellable (d : Domain) (groups : List Siblings) : Type 0 where
  pub sound : IsSound d
  pub formed : IsWellFormed d
  pub arranged : IsArranged (declared_of d).types.parents groups
