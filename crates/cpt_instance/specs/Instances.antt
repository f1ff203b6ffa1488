use Rattle.std.specs.Prelude.{◌≡◌, ◌↔◌, ℕ, ◌<◌, ◌*◌, ◌==◌, ◌⊎◌, ◌++◌, Bool, true, List, [], ◌∷◌, length, map, sum, count_by, flat_map, AllPairs, Contains, All, slice_index, slice_index_or, codes}
use Rattle.std.specs.List.{AllZip}
use Rattle.cpt_pddl.specs.Kinds.{is_below}
use Rattle.cpt_schema.specs.declared.terms.Term.{Term}
use Rattle.cpt_schema.specs.declared.terms.Term.TheVariants.{Param, Object}
use Rattle.cpt_schema.specs.declared.terms.Lit.{Lit}
use Rattle.cpt_schema.specs.declared.conditions.Test.{Test}
use Rattle.cpt_schema.specs.declared.durations.Lasting.{Lasting}
use Rattle.cpt_schema.specs.declared.durations.Lasting.TheVariants.{Fixed, Value}
use Rattle.cpt_schema.specs.declared.schemas.Schema.{Schema}
use Rattle.cpt_domain.specs.declared.domain.Domain.{Domain}
use Rattle.cpt_domain.specs.declared.domain.TypeDecl.{TypeDecl}
use Rattle.cpt_domain.specs.declared.domain.ObjectDecl.{ObjectDecl}
use Rattle.cpt_facts.specs.declared.problem.Fact.{Fact}
use Rattle.cpt_facts.specs.declared.problem.Problem.{Problem}
use Rattle.cpt_facts.specs.Fitting.{objects_of}
-- a schema's number, and an object for each of its parameters
pub use Rattle.cpt_instance.specs.declared.instances.Instance.{Instance}

-- the parent of each type
abbrev pub parents_of : Domain → List ℕ
parents_of d = map (λ (t : TypeDecl). t.parent) d.types

-- an object by number
abbrev pub no_object : ObjectDecl
no_object = record { name = []; kind = 0 }

-- the object of a number
abbrev pub object_at : Domain → Problem → ℕ → ObjectDecl
object_at d p o = slice_index_or (objects_of d p) o no_object

-- a schema by number
abbrev pub no_schema : Schema
no_schema = record { name = []; kinds = []; dur = Fixed 0; pre = []; add = []; dele = []; tests = []; absent = [] }

-- the schema of a number
abbrev pub schema_at : Domain → ℕ → Schema
schema_at d n = slice_index_or d.schemas n no_schema

-- whether an object is of the type, or of one below it
abbrev pub is_of : Domain → ℕ → ObjectDecl → Bool
is_of d kind o = is_below (parents_of d) o.kind kind

-- the number of an object of the type, or of one below it
pub record IsObjectOf (d : Domain) (p : Problem) (kind o : ℕ) : Type 0 where
  pub known : o < length (objects_of d p)
  pub fits : is_of d kind (object_at d p o) ≡ true

-- the object that a term stands for, where the parameters stand for these
abbrev pub object_for : List ℕ → Term → ℕ
object_for args (Param k) = slice_index args k
object_for args (Object o) = o

-- the objects of terms, where parameters have these
abbrev pub objects_for : List ℕ → List Term → List ℕ
objects_for args terms = map (object_for args) terms

-- the ground atom, and the ground atoms of a list
abbrev pub ground_atom : List ℕ → Lit → Fact
ground_atom args lit = record { pred = lit.pred; args = objects_for args lit.terms }

-- the facts of atoms, where parameters have these objects
abbrev pub ground_atoms : List ℕ → List Lit → List Fact
ground_atoms args lits = map (ground_atom args) lits

-- the two sides are one object exactly where the test asks for that
abbrev pub TestHolds : List ℕ → Test → Type 0
TestHolds args test = (object_for args test.left == object_for args test.right) ≡ test.equal

-- the duration is fixed, or the problem's value of the function for these objects
abbrev pub HasDuration : Problem → List ℕ → Lasting → ℕ → Type 0
HasDuration p args (Fixed n) dur = n ≡ dur
HasDuration p args (Value func terms) dur = Contains p.values (record { func = func; args = objects_for args terms; value = dur })

-- a schema of the domain, and an object of each parameter's type
pub record IsTyped (d : Domain) (p : Problem) (i : Instance) : Type 0 where
  pub schema : i.schema < length d.schemas
  pub args : AllZip (IsObjectOf d p) (schema_at d i.schema).kinds i.args

-- a type-correct list of objects for which all tests hold, and which has a duration
pub record IsInstance (d : Domain) (p : Problem) (i : Instance) : Type 0 where
  pub typed : IsTyped d p i
  pub tests : All (TestHolds i.args) (schema_at d i.schema).tests
  pub timed : (dur : ℕ) × HasDuration p i.args (schema_at d i.schema).dur dur

-- the first list comes before the second, by the first numbers that differ
abbrev pub IsListBefore : List ℕ → List ℕ → Type 0
IsListBefore [] [] = ⊥
IsListBefore [] (y ∷ ys) = Unit {0}
IsListBefore (x ∷ xs) [] = ⊥
IsListBefore (x ∷ xs) (y ∷ ys) = (x < y) ⊎ ((x ≡ y) × IsListBefore xs ys)

-- in order of schema, then of the objects
abbrev pub IsInstanceBefore : Instance → Instance → Type 0
IsInstanceBefore i j = (i.schema < j.schema) ⊎ ((i.schema ≡ j.schema) × IsListBefore i.args j.args)

-- exactly the instances, in order
pub record AreInstances (d : Domain) (p : Problem) (xs : List Instance) : Type 0 where
  pub exact : (i : Instance) → Contains xs i ↔ IsInstance d p i
  pub ordered : AllPairs IsInstanceBefore xs

-- a name in parentheses, and names behind it
abbrev pub group_of : List ℕ → List (List ℕ) → List ℕ
group_of name names = (codes "(" ++ name) ++ (flat_map (λ word. 32 ∷ word) names ++ codes ")")

-- the names of objects
abbrev pub names_of : Domain → Problem → List ℕ → List (List ℕ)
names_of d p args = map (λ o. (object_at d p o).name) args

-- the name of an instance: those of the schema and of the objects
abbrev pub instance_name : Domain → Problem → Instance → List ℕ
instance_name d p i = group_of (schema_at d i.schema).name (names_of d p i.args)

-- how many objects are of the type or below it
abbrev pub object_count : Domain → Problem → ℕ → ℕ
object_count d p kind = count_by (is_of d kind) (objects_of d p)

-- how many lists have an object of each type
abbrev pub list_count : Domain → Problem → List ℕ → ℕ
list_count d p [] = 1
list_count d p (kind ∷ kinds) = object_count d p kind * list_count d p kinds

-- how many type-correct lists the schemas have
abbrev pub type_correct_lists : Domain → Problem → ℕ
type_correct_lists d p = sum (map (λ (s : Schema). list_count d p s.kinds) d.schemas)
