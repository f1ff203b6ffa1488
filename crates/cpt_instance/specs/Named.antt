use Rattle.std.specs.Prelude.{◌≡◌, ℕ, ◌==◌, if◌then◌else◌, List, [], ◌∷◌, Option, None, Some, ◌++◌, flat_map, map, take, drop}
use Rattle.std.specs.Option.{option_map}
use Rattle.std.specs.List.{position_or_len}
use Rattle.cpt_pddl.specs.Names.{place_from}
use Rattle.cpt_schema.specs.declared.schemas.Schema.{Schema}
use Rattle.cpt_domain.specs.declared.domain.Domain.{Domain}
use Rattle.cpt_facts.specs.declared.problem.Problem.{Problem}
use Rattle.cpt_facts.specs.Fitting.{object_names}
use Rattle.cpt_instance.specs.Instances.{Instance, IsInstance, HasDuration, instance_name, is_of, names_of, object_at, schema_at}

-- the names of the schemas
abbrev pub schema_names : Domain → List (List ℕ)
schema_names d = map (λ (s : Schema). s.name) d.schemas

-- the name is that of this instance, which has this duration
pub record IsNamed (d : Domain) (p : Problem) (name : List ℕ) (dur : ℕ) (i : Instance) : Type 0 where
  pub instance : IsInstance d p i
  pub name_is : name ≡ instance_name d p i
  pub timed : HasDuration p i.args (schema_at d i.schema).dur dur

-- the place of the first blank, or the length
abbrev pub blank_at : List ℕ → ℕ
blank_at text = position_or_len (λ b. b == 32) text

-- the object where it is of the type, and what follows its name
abbrev pub arg_named : Domain → Problem → ℕ → List ℕ → Option ℕ → Option (ℕ × List ℕ)
arg_named d p kind text None = None
arg_named d p kind text (Some o) = if is_of d kind (object_at d p o) then Some (o, drop (blank_at text) text) else None

-- a blank and the name of an object of the type: its number, and what follows
abbrev pub read_arg : Domain → Problem → ℕ → List ℕ → Option (ℕ × List ℕ)
read_arg d p kind [] = None
read_arg d p kind (b ∷ text) = if b == 32 then arg_named d p kind text (place_from (object_names d p) 0 (take (blank_at text) text)) else None

-- one object, and then those of the rest
abbrev pub then_args : Option (ℕ × List ℕ) → (List ℕ → Option (List ℕ)) → Option (List ℕ)
then_args None next = None
then_args (Some x) next = option_map (λ ns. x.0 ∷ ns) (next x.1)

-- the objects of these types that a text names
abbrev pub read_args : Domain → Problem → List ℕ → List ℕ → Option (List ℕ)
read_args d p [] [] = Some []
read_args d p [] (b ∷ text) = None
read_args d p (kind ∷ kinds) text = then_args (read_arg d p kind text) (read_args d p kinds)

-- behind a schema's name the text names these objects, which make an instance with this duration
pub record IsBehind (d : Domain) (p : Problem) (k : ℕ) (text : List ℕ) (dur : ℕ) (args : List ℕ) : Type 0 where
  pub instance : IsInstance d p (record { schema = k; args = args })
  pub text_is : text ≡ flat_map (λ word. 32 ∷ word) (names_of d p args)
  pub timed : HasDuration p args (schema_at d k).dur dur

-- between parentheses the text names this instance, which has this duration
pub record IsInside (d : Domain) (p : Problem) (text : List ℕ) (dur : ℕ) (i : Instance) : Type 0 where
  pub instance : IsInstance d p i
  pub text_is : text ≡ (schema_at d i.schema).name ++ flat_map (λ word. 32 ∷ word) (names_of d p i.args)
  pub timed : HasDuration p i.args (schema_at d i.schema).dur dur
