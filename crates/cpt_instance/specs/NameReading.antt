use Rattle.std.specs.Prelude.{ℕ, ◌==◌, ◌&&◌, not, Bool, if◌then◌else◌, List, [], ◌∷◌, take, drop, Option, None, Some}
use Rattle.std.specs.List.{list_all}
use Rattle.std.specs.Option.{option_map}
use Rattle.std.specs.Str.{bytes_eq}
use Rattle.cpt_pddl.specs.Names.{place_from}
use Rattle.cpt_schema.specs.declared.conditions.Test.{Test}
use Rattle.cpt_schema.specs.declared.durations.Lasting.{Lasting}
use Rattle.cpt_schema.specs.declared.durations.Lasting.TheVariants.{Fixed, Value}
use Rattle.cpt_schema.specs.declared.schemas.Schema.{Schema}
use Rattle.cpt_domain.specs.declared.domain.Domain.{Domain}
use Rattle.cpt_facts.specs.declared.problem.Problem.{Problem}
use Rattle.cpt_facts.specs.declared.problem.Valued.{Valued}
use Rattle.cpt_instance.specs.Instances.{object_for, objects_for, schema_at}
use Rattle.cpt_instance.specs.Named.{blank_at, read_args, schema_names}

-- what stands before a closing parenthesis at the end
abbrev pub before_close : List ℕ → Option (List ℕ)
before_close [] = None
before_close (b ∷ []) = if b == 41 then Some [] else None
before_close (b ∷ c ∷ bs) = option_map (λ text. b ∷ text) (before_close (c ∷ bs))

-- what stands between the parentheses
abbrev pub inside : List ℕ → Option (List ℕ)
inside [] = None
inside (b ∷ bs) = if b == 40 then before_close bs else None

-- whether the two sides are one object exactly where the test asks for that
abbrev pub test_holds : List ℕ → Test → Bool
test_holds args test = if object_for args test.left == object_for args test.right then test.equal else not test.equal

-- the first value of the function for these objects
abbrev pub value_in : List Valued → ℕ → List ℕ → Option ℕ
value_in [] func args = None
value_in (v ∷ vs) func args = if (v.func == func) && bytes_eq v.args args then Some v.value else value_in vs func args

-- the duration at these objects: the fixed one, or the problem's value of the function
abbrev pub duration_at : Problem → List ℕ → Lasting → Option ℕ
duration_at p args (Fixed n) = Some n
duration_at p args (Value func terms) = value_in p.values func (objects_for args terms)

-- the duration of the schema at these objects, where its tests hold
abbrev pub timed_duration : Problem → Schema → Option (List ℕ) → Option ℕ
timed_duration p s None = None
timed_duration p s (Some args) = if list_all (test_holds args) s.tests then duration_at p args s.dur else None

-- the duration of the schema of this number at the objects that the text names
abbrev pub behind_duration : Domain → Problem → List ℕ → Option ℕ → Option ℕ
behind_duration d p text None = None
behind_duration d p text (Some k) = timed_duration p (schema_at d k) (read_args d p (schema_at d k).kinds text)

-- the duration of the instance whose schema and objects the text names
abbrev pub inside_duration : Domain → Problem → Option (List ℕ) → Option ℕ
inside_duration d p None = None
inside_duration d p (Some text) = behind_duration d p (drop (blank_at text) text) (place_from (schema_names d) 0 (take (blank_at text) text))

-- the duration of the instance that has this name, where one has it
unfoldable pub named_duration : Domain → Problem → List ℕ → Option ℕ
named_duration d p name = inside_duration d p (inside name)
