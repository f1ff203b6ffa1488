use Rattle.std.specs.Prelude.{◌≡◌, ◌≢◌, ℕ, ◌<◌, ◌≤◌, ◌++◌, true, List, [], length, map, All, Contains, slice_index_or}
use Rattle.cpt_pddl.specs.Words.{is_word}
use Rattle.cpt_schema.specs.declared.durations.Lasting.{Lasting}
use Rattle.cpt_schema.specs.declared.durations.Lasting.TheVariants.{Fixed, Value}
use Rattle.cpt_schema.specs.declared.schemas.Schema.{Schema}
use Rattle.cpt_domain.specs.declared.domain.Domain.{Domain}
use Rattle.cpt_domain.specs.declared.domain.ObjectDecl.{ObjectDecl}
use Rattle.cpt_domain.specs.declared.domain.Predicate.{Predicate}
use Rattle.cpt_domain.specs.declared.domain.Function.{Function}
use Rattle.cpt_facts.specs.declared.problem.Fact.{Fact}
use Rattle.cpt_facts.specs.declared.problem.Valued.{Valued}
use Rattle.cpt_facts.specs.declared.problem.Problem.{Problem}

-- the constants of the domain and the objects of the problem, by number
abbrev pub objects_of : Domain → Problem → List ObjectDecl
objects_of d p = d.constants ++ p.objects

-- a predicate and a function of a number
abbrev pub no_predicate : Predicate
no_predicate = record { name = []; kinds = [] }

-- the predicate of a number
abbrev pub predicate_at : Domain → ℕ → Predicate
predicate_at d n = slice_index_or d.predicates n no_predicate

-- a function in the place of one that is not there
abbrev pub no_function : Function
no_function = record { name = []; kinds = [] }

-- the function of a number
abbrev pub function_at : Domain → ℕ → Function
function_at d n = slice_index_or d.functions n no_function

-- each number is that of an object
abbrev pub AreObjects : Domain → Problem → List ℕ → Type 0
AreObjects d p args = All (λ o. o < length (objects_of d p)) args

-- a predicate of the domain, and as many objects as it has variables
pub record FactFits (d : Domain) (p : Problem) (f : Fact) : Type 0 where
  pub pred : f.pred < length d.predicates
  pub arity : length f.args ≡ length (predicate_at d f.pred).kinds
  pub args : AreObjects d p f.args

-- the schema's duration is the value of this function
abbrev pub Names : Lasting → ℕ → Type 0
Names (Fixed n) func = ⊥
Names (Value f terms) func = f ≡ func

-- some schema's duration is the value of this function
abbrev pub IsDurationFunction : Domain → ℕ → Type 0
IsDurationFunction d func = (s : Schema) × Contains d.schemas s × Names s.dur func

-- a function of the domain, as many objects as it has variables, and a duration where one is asked for
pub record ValueFits (d : Domain) (p : Problem) (v : Valued) : Type 0 where
  pub func : v.func < length d.functions
  pub arity : length v.args ≡ length (function_at d v.func).kinds
  pub args : AreObjects d p v.args
  pub duration : IsDurationFunction d v.func → (1 ≤ v.value) × (v.value ≤ 100000)

-- the value at a place
abbrev pub no_value : Valued
no_value = record { func = 0; args = []; value = 0 }

-- the value at a place of the problem's list
abbrev pub value_at : Problem → ℕ → Valued
value_at p i = slice_index_or p.values i no_value

-- no function has two values for the same objects
abbrev pub AreSingle : Problem → Type 0
AreSingle p = (i j : ℕ) → i < j → j < length p.values → (value_at p i).func ≡ (value_at p j).func → (value_at p i).args ≢ (value_at p j).args

-- the names of constants and objects, by number
abbrev pub object_names : Domain → Problem → List (List ℕ)
object_names d p = map (λ (o : ObjectDecl). o.name) (objects_of d p)

-- different words
abbrev pub AreDifferent : List (List ℕ) → Type 0
AreDifferent names = (i j : ℕ) → i < j → j < length names → slice_index_or names i [] ≢ slice_index_or names j []

-- words
abbrev pub AreWords : List (List ℕ) → Type 0
AreWords names = All (λ name. is_word name ≡ true) names

-- a problem fits a sound domain
pub record Fits (d : Domain) (p : Problem) : Type 0 where
  pub kinds : All (λ (o : ObjectDecl). o.kind < length d.types) p.objects
  pub init : All (FactFits d p) p.init
  pub goal : All (FactFits d p) p.goal
  pub absent : All (FactFits d p) p.absent
  pub values : All (ValueFits d p) p.values
  pub single : AreSingle p
  pub names : AreDifferent (object_names d p)
  pub words : AreWords (object_names d p)
  pub few_objects : length (objects_of d p) ≤ 4096
  pub few_init : length p.init < 16777216
  pub few_goal : length p.goal < 16777216
  pub few_absent : length p.absent < 16777216
  pub few_values : length p.values < 16777216
