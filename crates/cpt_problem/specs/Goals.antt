use Rattle.std.specs.Prelude.{ℕ, List, [], ◌∷◌, ◌++◌, Result, Ok, Err}
use Rattle.cpt_pddl.specs.declared.fault.Feature.TheVariants as features
use Rattle.cpt_pddl.specs.declared.fault.Fault.{Fault}
use Rattle.cpt_pddl.specs.declared.fault.Fault.TheVariants.{Shape, Feature}
use Rattle.cpt_pddl.specs.declared.words.Head.{Head}
use Rattle.cpt_pddl.specs.declared.words.Head.TheVariants.{And, Not, Equal, At, Over, Untaken, Numeric, Other}
use Rattle.cpt_pddl.specs.Faults.{◌>>=◌}
use Rattle.cpt_pddl.specs.Items.{Items, end, word, group}
use Rattle.cpt_pddl.specs.Reading.{group_at, nothing}
use Rattle.cpt_pddl.specs.Words.{head_of}
use Rattle.cpt_declared.specs.declared.declared.Declared.{Declared}
use Rattle.cpt_facts.specs.declared.problem.Fact.{Fact}
use Rattle.cpt_problem.specs.Objects.{atom_in}

-- a goal so far: the atoms that are to be there, and those that are to be absent
pub record Aims : Type 0 where
  pub present : List Fact
  pub absent : List Fact

-- no goal yet
abbrev pub no_aims : Aims
no_aims = record { present = []; absent = [] }

-- an atom that is to be there
unfoldable pub present_atom : Declared → Aims → ℕ → ℕ → List ℕ → Items → Result Aims Fault
present_atom declared aims atom at bytes rest = do
  fact ← atom_in declared atom at bytes rest
  Ok (record aims { present = aims.present ++ fact ∷ [] })

-- an atom that is to be absent
unfoldable pub absent_atom : Declared → Aims → ℕ → ℕ → List ℕ → Items → Result Aims Fault
absent_atom declared aims atom at bytes rest = do
  fact ← atom_in declared atom at bytes rest
  Ok (record aims { absent = aims.absent ++ fact ∷ [] })

-- what is in the group that is negated, by its first word; the byte of the negation, and that of the group
abbrev pub negated_by : Declared → Aims → ℕ → ℕ → ℕ → List ℕ → Items → Head → Result Aims Fault
negated_by declared aims not_at atom at bytes rest And = Err (Feature features.Negative not_at)
negated_by declared aims not_at atom at bytes rest Not = Err (Feature features.Negative not_at)
negated_by declared aims not_at atom at bytes rest Equal = Err (Feature features.GoalEquality atom)
negated_by declared aims not_at atom at bytes rest At = absent_atom declared aims atom at bytes rest
negated_by declared aims not_at atom at bytes rest Over = absent_atom declared aims atom at bytes rest
negated_by declared aims not_at atom at bytes rest (Untaken which) = Err (Feature features.Negative not_at)
negated_by declared aims not_at atom at bytes rest Numeric = absent_atom declared aims atom at bytes rest
negated_by declared aims not_at atom at bytes rest Other = absent_atom declared aims atom at bytes rest

-- the one atom behind `not`, and the end of the group
abbrev pub negated_group : Declared → Aims → ℕ → ℕ → Items → Result Aims Fault
negated_group declared aims not_at atom (end close) = Err (Shape close)
negated_group declared aims not_at atom (word at bytes rest) = negated_by declared aims not_at atom at bytes rest (head_of bytes)
negated_group declared aims not_at atom (group at inside rest) = Err (Shape at)

-- what follows the word of a negation
unfoldable pub negated : Declared → Aims → ℕ → Items → Result Aims Fault
negated declared aims not_at items = do
  found ← group_at items
  more ← negated_group declared aims not_at found.0 found.1
  _ ← nothing found.2
  Ok more

-- a goal by its first word, where what follows this word says so much as a list of goals
abbrev pub goal_by : Declared → Aims → ℕ → ℕ → List ℕ → Items → Result Aims Fault → Head → Result Aims Fault
goal_by declared aims atom at bytes rest all And = all
goal_by declared aims atom at bytes rest all Not = negated declared aims atom rest
goal_by declared aims atom at bytes rest all Equal = Err (Feature features.GoalEquality atom)
goal_by declared aims atom at bytes rest all At = present_atom declared aims atom at bytes rest
goal_by declared aims atom at bytes rest all Over = present_atom declared aims atom at bytes rest
goal_by declared aims atom at bytes rest all (Untaken which) = Err (Feature which atom)
goal_by declared aims atom at bytes rest all Numeric = Err (Feature features.Numeric atom)
goal_by declared aims atom at bytes rest all Other = present_atom declared aims atom at bytes rest

abbrev mutual
  -- goals, each in its group
  pub goals_in : Declared → Aims → Items → Result Aims Fault
  goals_in declared aims (end close) = Ok aims
  goals_in declared aims (word at bytes rest) = Err (Shape at)
  goals_in declared aims (group atom inside rest) = goal_in declared aims atom inside >>= (λ more. goals_in declared more rest)

  -- what is in the group of a goal that begins at a byte
  pub goal_in : Declared → Aims → ℕ → Items → Result Aims Fault
  goal_in declared aims atom (end close) = Ok aims
  goal_in declared aims atom (word at bytes within) =
      goal_by declared aims atom at bytes within (goals_in declared aims within) (head_of bytes)
  goal_in declared aims atom (group at inside within) = Err (Shape at)

-- the one goal of a section
unfoldable pub goal_part : Declared → Items → Result Aims Fault
goal_part declared items = do
  found ← group_at items
  aims ← goal_in declared no_aims found.0 found.1
  _ ← nothing found.2
  Ok aims
