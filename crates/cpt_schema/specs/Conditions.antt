use Rattle.std.specs.Prelude.{ℕ, ◌+◌, nat_le, Bool, true, false, if◌then◌else◌, List, [], ◌∷◌, ◌++◌, length, Result, Ok, Err, codes}
use Rattle.std.specs.Str.{bytes_eq}
use Rattle.cpt_pddl.specs.declared.fault.Feature.TheVariants as features
use Rattle.cpt_pddl.specs.declared.fault.Fault.{Fault}
use Rattle.cpt_pddl.specs.declared.fault.Fault.TheVariants.{Shape, Feature}
use Rattle.cpt_pddl.specs.declared.typed.Typed.{Typed}
use Rattle.cpt_pddl.specs.declared.words.Head.{Head}
use Rattle.cpt_pddl.specs.declared.words.Head.TheVariants.{And, Not, Equal, At, Over, Untaken, Numeric, Other}
use Rattle.cpt_pddl.specs.Faults.{◌>>=◌}
use Rattle.cpt_pddl.specs.Items.{Items, end, word, group}
use Rattle.cpt_pddl.specs.Reading.{group_at, nothing}
use Rattle.cpt_pddl.specs.Words.{head_of}
use Rattle.cpt_declared.specs.declared.declared.Declared.{Declared}
use Rattle.cpt_schema.specs.declared.conditions.Test.{Test}
use Rattle.cpt_schema.specs.declared.terms.Lit.{Lit}
use Rattle.cpt_schema.specs.declared.terms.Term.{Term}
use Rattle.cpt_schema.specs.Terms.{atom_in, term_at}

-- the conditions of a schema so far: atoms that are to be there, atoms that are to be absent, and tests
pub record Conds : Type 0 where
  pub pre : List Lit
  pub absent : List Lit
  pub tests : List Test

-- the atoms of the conditions are as many as there may be
abbrev pub is_full : Conds → Bool
is_full conds = nat_le 64 (length conds.pre + length conds.absent)

-- an atom that is to be there
unfoldable pub present : Declared → Typed → Conds → ℕ → ℕ → List ℕ → Items → Result Conds Fault
present declared params conds atom at bytes rest = do
  lit ← atom_in declared params (is_full conds) atom at bytes rest
  Ok (record conds { pre = conds.pre ++ lit ∷ [] })

-- an atom that is to be absent
unfoldable pub absent_atom : Declared → Typed → Conds → ℕ → ℕ → List ℕ → Items → Result Conds Fault
absent_atom declared params conds atom at bytes rest = do
  lit ← atom_in declared params (is_full conds) atom at bytes rest
  Ok (record conds { absent = conds.absent ++ lit ∷ [] })

-- a term of any type, and what follows it
abbrev pub term_next : Declared → Typed → Items → Result (Term × Items) Fault
term_next declared params (end close) = Err (Shape close)
term_next declared params (word at bytes rest) = term_at declared params at bytes >>= (λ found. Ok (found.0, rest))
term_next declared params (group at inside rest) = Err (Shape at)

-- a group is among the first two items
abbrev pub has_group_side : Items → Bool
has_group_side (end close) = false
has_group_side (word at bytes (end close)) = false
has_group_side (word at bytes (word a b rest)) = false
has_group_side (word at bytes (group a inside rest)) = true
has_group_side (group at inside rest) = true

-- two terms, which are to be equal or different
unfoldable pub two_terms : Declared → Typed → Conds → Bool → Items → Result Conds Fault
two_terms declared params conds equal items = do
  left ← term_next declared params items
  right ← term_next declared params left.1
  _ ← nothing right.1
  Ok (record conds { tests = conds.tests ++ record { left = left.0; right = right.0; equal = equal } ∷ [] })

-- what follows the sign of an equation, whose group begins at a byte
unfoldable pub equation : Declared → Typed → Conds → ℕ → Bool → Items → Result Conds Fault
equation declared params conds at equal items =
    if has_group_side items then Err (Feature features.Numeric at) else two_terms declared params conds equal items

-- a group whose negation is not taken
abbrev pub is_compound : Head → Bool
is_compound And = true
is_compound Not = true
is_compound Equal = false
is_compound At = false
is_compound Over = false
is_compound (Untaken which) = true
is_compound Numeric = false
is_compound Other = false

-- what is in the group that is negated: an equation or an atom; the byte of the negation, and that of the group
abbrev pub negated_by : Declared → Typed → Conds → ℕ → ℕ → ℕ → List ℕ → Items → Head → Result Conds Fault
negated_by declared params conds not_at atom at bytes rest And = Err (Feature features.Negative not_at)
negated_by declared params conds not_at atom at bytes rest Not = Err (Feature features.Negative not_at)
negated_by declared params conds not_at atom at bytes rest Equal = equation declared params conds atom false rest
negated_by declared params conds not_at atom at bytes rest At = absent_atom declared params conds atom at bytes rest
negated_by declared params conds not_at atom at bytes rest Over = absent_atom declared params conds atom at bytes rest
negated_by declared params conds not_at atom at bytes rest (Untaken which) = Err (Feature features.Negative not_at)
negated_by declared params conds not_at atom at bytes rest Numeric = absent_atom declared params conds atom at bytes rest
negated_by declared params conds not_at atom at bytes rest Other = absent_atom declared params conds atom at bytes rest

-- the one group behind `not`: an atom or an equation
abbrev pub negated_group : Declared → Typed → Conds → ℕ → ℕ → Items → Result Conds Fault
negated_group declared params conds not_at atom (end close) = Err (Shape close)
negated_group declared params conds not_at atom (word at bytes rest) = negated_by declared params conds not_at atom at bytes rest (head_of bytes)
negated_group declared params conds not_at atom (group at inside rest) = Err (Shape at)

-- what follows the word of a negation
unfoldable pub negated : Declared → Typed → Conds → ℕ → Items → Result Conds Fault
negated declared params conds not_at items = do
  found ← group_at items
  more ← negated_group declared params conds not_at found.0 found.1
  _ ← nothing found.2
  Ok more

-- a condition by its first word, where what follows this word says so much as a list of conditions
abbrev pub condition_by : Declared → Typed → Conds → ℕ → ℕ → List ℕ → Items → Result Conds Fault → Head → Result Conds Fault
condition_by declared params conds atom at bytes rest all And = all
condition_by declared params conds atom at bytes rest all Not = negated declared params conds atom rest
condition_by declared params conds atom at bytes rest all Equal = equation declared params conds atom true rest
condition_by declared params conds atom at bytes rest all At = present declared params conds atom at bytes rest
condition_by declared params conds atom at bytes rest all Over = present declared params conds atom at bytes rest
condition_by declared params conds atom at bytes rest all (Untaken which) = Err (Feature which atom)
condition_by declared params conds atom at bytes rest all Numeric = Err (Feature features.Numeric atom)
condition_by declared params conds atom at bytes rest all Other = present declared params conds atom at bytes rest

abbrev mutual
  -- conditions, each in its group
  pub conditions_in : Declared → Typed → Conds → Items → Result Conds Fault
  conditions_in declared params conds (end close) = Ok conds
  conditions_in declared params conds (word at bytes rest) = Err (Shape at)
  conditions_in declared params conds (group atom inside rest) =
      condition_in declared params conds atom inside >>= (λ more. conditions_in declared params more rest)

  -- what is in the group of a condition that begins at a byte
  pub condition_in : Declared → Typed → Conds → ℕ → Items → Result Conds Fault
  condition_in declared params conds atom (end close) = Ok conds
  condition_in declared params conds atom (word at bytes within) =
      condition_by declared params conds atom at bytes within (conditions_in declared params conds within) (head_of bytes)
  condition_in declared params conds atom (group at inside within) = Err (Shape at)

-- a moment or a stretch of an action: the start, the end, or all of it
abbrev pub is_moment : List ℕ → Bool
is_moment bytes = if bytes_eq bytes (codes "start") then true else bytes_eq bytes (codes "end")

-- the word of a moment, and then what follows it
abbrev pub after_moment : Items → Result Items Fault
after_moment (end close) = Err (Shape close)
after_moment (word at bytes rest) = if is_moment bytes then Ok rest else Err (Shape at)
after_moment (group at inside rest) = Err (Shape at)

-- the word all, and then what follows it
abbrev pub after_all : Items → Result Items Fault
after_all (end close) = Err (Shape close)
after_all (word at bytes rest) = if bytes_eq bytes (codes "all") then Ok rest else Err (Shape at)
after_all (group at inside rest) = Err (Shape at)

-- the one condition that follows a tag
unfoldable pub tagged : Declared → Typed → Conds → Items → Result Conds Fault
tagged declared params conds items = do
  found ← group_at items
  more ← condition_in declared params conds found.0 found.1
  _ ← nothing found.2
  Ok more

-- a condition at a moment
unfoldable pub at_moment : Declared → Typed → Conds → Items → Result Conds Fault
at_moment declared params conds items = do
  next ← after_moment items
  tagged declared params conds next

-- a condition over all of the action
unfoldable pub over_all : Declared → Typed → Conds → Items → Result Conds Fault
over_all declared params conds items = do
  next ← after_all items
  tagged declared params conds next

-- the group of a compound condition is first
abbrev pub begins_compound : Items → Bool
begins_compound (end close) = false
begins_compound (word at bytes rest) = false
begins_compound (group at (end close) rest) = false
begins_compound (group at (word a bytes within) rest) = is_compound (head_of bytes)
begins_compound (group at (group a inside within) rest) = false

-- a tagged condition by its first word
abbrev pub timed_by : Declared → Typed → Conds → ℕ → ℕ → Items → Result Conds Fault → Head → Result Conds Fault
timed_by declared params conds atom at rest all And = all
timed_by declared params conds atom at rest all Not = Err (if begins_compound rest then Feature features.Negative atom else Shape at)
timed_by declared params conds atom at rest all Equal = Err (if has_group_side rest then Feature features.Numeric atom else Shape at)
timed_by declared params conds atom at rest all At = at_moment declared params conds rest
timed_by declared params conds atom at rest all Over = over_all declared params conds rest
timed_by declared params conds atom at rest all (Untaken which) = Err (Feature which atom)
timed_by declared params conds atom at rest all Numeric = Err (Feature features.Numeric atom)
timed_by declared params conds atom at rest all Other = Err (Shape at)

abbrev mutual
  -- tagged conditions, each in its group
  pub timed_conditions_in : Declared → Typed → Conds → Items → Result Conds Fault
  timed_conditions_in declared params conds (end close) = Ok conds
  timed_conditions_in declared params conds (word at bytes rest) = Err (Shape at)
  timed_conditions_in declared params conds (group atom inside rest) =
      timed_condition_in declared params conds atom inside >>= (λ more. timed_conditions_in declared params more rest)

  -- what is in the group of a tagged condition that begins at a byte
  pub timed_condition_in : Declared → Typed → Conds → ℕ → Items → Result Conds Fault
  timed_condition_in declared params conds atom (end close) = Ok conds
  timed_condition_in declared params conds atom (word at bytes within) =
      timed_by declared params conds atom at within (timed_conditions_in declared params conds within) (head_of bytes)
  timed_condition_in declared params conds atom (group at inside within) = Err (Shape at)
