use Rattle.std.specs.Prelude.{◌≡◌, ℕ, ◌<◌, ◌≤◌, ◌↔◌, ◌⊎◌, ◌++◌, List, [], ◌∷◌, All, AllPairs, Contains, IsSome, Result, Ok, Err, slice_index_or}
use Rattle.std.specs.List.{AllZip}
use Rattle.cpt_task.specs.declared.memory.Limit.TheVariants.{Instances}
use Rattle.cpt_schema.specs.declared.schemas.Schema.{Schema}
use Rattle.cpt_domain.specs.declared.domain.Domain.{Domain}
use Rattle.cpt_facts.specs.declared.problem.Problem.{Problem}
use Rattle.cpt_instance.specs.declared.error.GroundError.{GroundError}
use Rattle.cpt_instance.specs.declared.error.GroundError.TheVariants.{Limit, Memory}
use Rattle.cpt_instance.specs.Choices.{choice_at, members_from}
use Rattle.cpt_instance.specs.Durations.{ValueMap, duration_in}
use Rattle.cpt_instance.specs.Instances.{AreInstances, Instance, IsInstanceBefore, TestHolds, no_schema, type_correct_lists}

-- all tests of the schema hold at these objects, and it has a duration there
pub record IsKept (m : ValueMap) (s : Schema) (args : List ℕ) : Type 0 where
  pub tests : All (TestHolds args) s.tests
  pub timed : IsSome (duration_in m args s.dur)

-- the list has exactly the instances of which P holds, in order
pub record AreAll (P : Instance → Type 0) (xs : List Instance) : Type 0 where
  pub exact : (i : Instance) → Contains xs i ↔ P i
  pub ordered : AllPairs IsInstanceBefore xs

-- behind the old list come exactly the instances of which P holds, in order
pub record Adds (P : Instance → Type 0) (old new : List Instance) : Type 0 where
  pub added : List Instance
  pub is : new ≡ old ++ added
  pub all : AreAll P added

-- this instance comes behind the old list where P holds, else nothing
abbrev pub AddsWhere : Type 0 → Instance → List Instance → List Instance → Type 0
AddsWhere P i old new = (P × (new ≡ old ++ i ∷ [])) ⊎ ((P → ⊥) × (new ≡ old))

-- an instance of the schema with this number, by one of the first ways to choose its objects
pub record IsChosen (m : ValueMap) (s : Schema) (number : ℕ) (choices : List (List ℕ)) (count : ℕ) (i : Instance) : Type 0 where
  pub schema : i.schema ≡ number
  pub place : ℕ
  pub within : place < count
  pub args : i.args ≡ choice_at choices place
  pub kept : IsKept m s i.args

-- an instance of the schema with this number, whose objects are of the wanted types
pub record IsOfSchema (m : ValueMap) (s : Schema) (number : ℕ) (parents kinds : List ℕ) (i : Instance) : Type 0 where
  pub schema : i.schema ≡ number
  pub args : AllZip (λ wanted o. Contains (members_from parents wanted 0 kinds) o) s.kinds i.args
  pub kept : IsKept m s i.args

-- an instance of one of the first schemas, whose objects are of the wanted types
pub record IsOfFirst (m : ValueMap) (schemas : List Schema) (count : ℕ) (parents kinds : List ℕ) (i : Instance) : Type 0 where
  pub known : i.schema < count
  pub of : IsOfSchema m (slice_index_or schemas i.schema no_schema) i.schema parents kinds i

-- the instances where the type-correct lists are at most 1,000,000, else that they are more
abbrev pub ListsInstances : Domain → Problem → Result (List Instance) GroundError → Type 0
ListsInstances d p (Ok xs) = (type_correct_lists d p ≤ 1000000) × AreInstances d p xs
ListsInstances d p (Err (Limit which)) = (which ≡ Instances) × (1000000 < type_correct_lists d p)
ListsInstances d p (Err Memory) = Unit
