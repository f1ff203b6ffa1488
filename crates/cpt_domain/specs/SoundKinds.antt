use Rattle.std.specs.Prelude.{◌≡◌, ℕ, ◌<◌, ◌≤◌, true, List, length, All}
use Rattle.cpt_pddl.specs.declared.typed.Typed.{Typed}
use Rattle.cpt_declared.specs.declared.declared.Declared.{Declared}
use Rattle.cpt_declared.specs.declared.signatures.Signatures.{Signatures}
use Rattle.cpt_declared.specs.Kinds.{is_rooted}

-- each of these numbers is below a bound
abbrev pub AreBelow : ℕ → List ℕ → Type 0
AreBelow bound numbers = All (λ n. n < bound) numbers

-- so many types, by the parent of each: every parent is a type, object is its own, and it is above every type
pub record AreKinds (count : ℕ) (parents : List ℕ) : Type 0 where
  pub lengths : length parents ≡ count
  pub some : 0 < count
  pub below : AreBelow count parents
  pub rooted : is_rooted parents ≡ true

-- at most so many names, each with one of so many types
pub record AreTyped (most count : ℕ) (typed : Typed) : Type 0 where
  pub lengths : length typed.kinds ≡ length typed.names
  pub below : AreBelow count typed.kinds
  pub few : length typed.names ≤ most

-- at most 16 variables, each of one of so many types
pub record AreVariables (count : ℕ) (kinds : List ℕ) : Type 0 where
  pub below : AreBelow count kinds
  pub few : length kinds ≤ 16

-- names, each with its variables, which are of one of so many types
pub record AreSignatures (count : ℕ) (sigs : Signatures) : Type 0 where
  pub lengths : length sigs.kinds ≡ length sigs.names
  pub variables : All (AreVariables count) sigs.kinds

-- what is declared is sound
pub record IsSoundDeclared (d : Declared) : Type 0 where
  pub types : AreKinds (length d.types.names) d.types.parents
  pub constants : AreTyped 4096 (length d.types.names) d.constants
  pub predicates : AreSignatures (length d.types.names) d.predicates
  pub functions : AreSignatures (length d.types.names) d.functions
