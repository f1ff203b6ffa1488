use Rattle.std.specs.Prelude.{◌≡◌, ◌↔◌, ℕ, ◌<◌, ◌⊎◌, Bool, true, ◌&&◌, ◌||◌, not, List, ◌∷◌, Some, map, codes, Contains, AllPairs, slice_get}
use Rattle.std.specs.List.{list_any, AllZip}
use Rattle.std.specs.List.Sorted.{IsStrictlyIncreasing}
use Rattle.cpt_domain.specs.declared.domain.Domain.{Domain}
use Rattle.cpt_facts.specs.declared.problem.Fact.{Fact}
use Rattle.cpt_facts.specs.declared.problem.Problem.{Problem}
use Rattle.cpt_facts.specs.Fitting.{predicate_at}
use Rattle.cpt_task.specs.declared.task.Action.{Action}
use Rattle.cpt_task.specs.Shape.{TaskShape}
use Rattle.cpt_instance.specs.Instances.{IsListBefore, group_of, names_of}
use Rattle.cpt_ground.specs.Reading.{IsReading}
use Rattle.cpt_ground.specs.Signed.{Signed, SignedAction, has}

-- what an atom of the task stands for: that a ground atom is there, or, its complement, that it is missing
pub data Literal : Type 0 where
  there : Fact → Literal
  missing : Fact → Literal

-- in order of predicate, then of the objects
abbrev pub IsFactBefore : Fact → Fact → Type 0
IsFactBefore a b = (a.pred < b.pred) ⊎ ((a.pred ≡ b.pred) × IsListBefore a.args b.args)

-- the plain atoms before the complements, each in the order of ground atoms
abbrev pub IsLiteralBefore : Literal → Literal → Type 0
IsLiteralBefore (there a) (there b) = IsFactBefore a b
IsLiteralBefore (there a) (missing b) = Unit {0}
IsLiteralBefore (missing a) (there b) = ⊥
IsLiteralBefore (missing a) (missing b) = IsFactBefore a b

-- Which literals the task has: plain atoms that hold at first, that the goal needs present, or that an action needs
-- present, adds or deletes, and complements of those that the goal or an action needs absent.
abbrev pub is_used : Signed → Literal → Bool
is_used s (there f) = (has s.init f || has s.goal f) || list_any (λ (a : SignedAction). (has a.present f || has a.add f) || has a.dele f) s.actions
is_used s (missing f) = has s.absent f || list_any (λ (a : SignedAction). has a.absent f) s.actions

-- exactly those literals, in order
pub record AreLiterals (s : Signed) (literals : List Literal) : Type 0 where
  pub exact : (l : Literal) → Contains literals l ↔ (is_used s l ≡ true)
  pub ordered : AllPairs IsLiteralBefore literals

-- an action needs its present atoms, and the complements of its absent ones
abbrev pub needs : SignedAction → Literal → Bool
needs a (there f) = has a.present f
needs a (missing f) = has a.absent f

-- it adds its added atoms, and the complements of those that it deletes and does not add
abbrev pub adds : SignedAction → Literal → Bool
adds a (there f) = has a.add f
adds a (missing f) = has a.dele f && not (has a.add f)

-- it deletes its deleted atoms, and the complements of those that it adds
abbrev pub deletes : SignedAction → Literal → Bool
deletes a (there f) = has a.dele f
deletes a (missing f) = has a.add f

-- at first the initial atoms hold, and the complements of the others
abbrev pub is_initial : Signed → Literal → Bool
is_initial s (there f) = has s.init f
is_initial s (missing f) = not (has s.init f)

-- the goal needs its present atoms, and the complements of its absent ones
abbrev pub is_goal : Signed → Literal → Bool
is_goal s (there f) = has s.goal f
is_goal s (missing f) = has s.absent f

-- the numbers of the literals that pass the test, in order
pub record AreNumbers (literals : List Literal) (test : Literal → Bool) (ns : List ℕ) : Type 0 where
  pub ordered : IsStrictlyIncreasing ns
  pub exact : (n : ℕ) → Contains ns n ↔ ((l : Literal) × (slice_get literals n ≡ Some l) × (test l ≡ true))

-- the action of the task that stands for an action with absence
pub record IsCompiledAction (literals : List Literal) (a : SignedAction) (c : Action) : Type 0 where
  pub name : c.name ≡ a.name
  pub dur : c.dur ≡ a.dur
  pub pre : AreNumbers literals (needs a) c.pre
  pub add : AreNumbers literals (adds a) c.add
  pub dele : AreNumbers literals (deletes a) c.dele

-- the name of a literal: that of the predicate and those of the objects, behind `not` where it is a complement
abbrev pub literal_name : Domain → Problem → Literal → List ℕ
literal_name d p (there f) = group_of (predicate_at d f.pred).name (names_of d p f.args)
literal_name d p (missing f) = group_of (codes "not") ((predicate_at d f.pred).name ∷ names_of d p f.args)

-- the ground task of a reading, by the literals that its atoms stand for
pub record IsCompiledBy (s : Signed) (literals : List Literal) (t : TaskShape) : Type 0 where
  pub listed : AreLiterals s literals
  pub actions : AllZip (IsCompiledAction literals) s.actions t.actions
  pub init : AreNumbers literals (is_initial s) t.init
  pub goal : AreNumbers literals (is_goal s) t.goal

-- the ground task of a domain and a problem
pub record IsGround (d : Domain) (p : Problem) (t : TaskShape) : Type 0 where
  pub reading : Signed
  pub reads : IsReading d p reading
  pub literals : List Literal
  pub compiled : IsCompiledBy reading literals t
  pub atoms : t.atoms ≡ map (literal_name d p) literals
