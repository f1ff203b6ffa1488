use Rattle.std.specs.Prelude.{ℕ, Bool, true, false, if◌then◌else◌, is_some, map, List, [], Option, None, Some, Result, Ok, Err, codes}
use Rattle.std.specs.Str.{bytes_eq}
use Rattle.cpt_pddl.specs.declared.fault.Fault.{Fault}
use Rattle.cpt_pddl.specs.declared.fault.Fault.TheVariants.{Twice}
use Rattle.cpt_pddl.specs.declared.typed.Sort.TheVariants.{Variables}
use Rattle.cpt_pddl.specs.declared.typed.Typed.{Typed}
use Rattle.cpt_pddl.specs.Faults.{◌>>=◌}
use Rattle.cpt_pddl.specs.Items.{Items, end, word, group}
use Rattle.cpt_pddl.specs.Names.{place_in}
use Rattle.cpt_pddl.specs.Reading.{after_word, group_at, name_at, nothing}
use Rattle.cpt_pddl.specs.Typed.{no_names, typed_list}
use Rattle.cpt_declared.specs.declared.declared.Declared.{Declared}
use Rattle.cpt_schema.specs.declared.durations.Lasting.{Lasting}
use Rattle.cpt_schema.specs.declared.durations.Lasting.TheVariants.{Fixed}
use Rattle.cpt_schema.specs.declared.effects.Effect.{Effect}
use Rattle.cpt_schema.specs.declared.effects.Tag.TheVariants.{Plain}
use Rattle.cpt_schema.specs.declared.schemas.Schema.{Schema}
use Rattle.cpt_schema.specs.declared.terms.Lit.{Lit}
use Rattle.cpt_schema.specs.Conditions.{Conds, condition_in, timed_condition_in}
use Rattle.cpt_schema.specs.Durations.{duration_next}
use Rattle.cpt_schema.specs.Effects.{Effs, effect_in, timed_effect_in}

-- the group behind a keyword, where the keyword stands, and what follows it
abbrev pub part : List ℕ → Items → Result (Option (ℕ × Items) × Items) Fault
part wanted (end close) = Ok (None, end close)
part wanted (word at bytes rest) =
    if bytes_eq bytes wanted then group_at rest >>= (λ found. Ok (Some (found.0, found.1), found.2)) else Ok (None, word at bytes rest)
part wanted (group at inside rest) = Ok (None, group at inside rest)

-- the parameters in their group, where it stands
abbrev pub parameters_by : Declared → Option (ℕ × Items) → Result Typed Fault
parameters_by declared None = Ok no_names
parameters_by declared (Some found) = typed_list Variables declared.types.names no_names found.1

-- the parameters, where they stand, and what follows them
unfoldable pub parameters : Declared → Items → Result (Typed × Items) Fault
parameters declared items = do
  found ← part (codes ":parameters") items
  params ← parameters_by declared found.0
  Ok (params, found.1)

-- before the first condition, and before the first effect
abbrev pub no_conds : Conds
no_conds = record { pre = []; absent = []; tests = [] }

-- no effect yet
abbrev pub no_effs : Effs
no_effs = record { adds = []; dels = [] }

-- the condition of a group, where it stands; whether it is tagged
abbrev pub condition_part : Bool → Declared → Typed → Option (ℕ × Items) → Result Conds Fault
condition_part tagged declared params None = Ok no_conds
condition_part true declared params (Some found) = timed_condition_in declared params no_conds found.0 found.1
condition_part false declared params (Some found) = condition_in declared params no_conds found.0 found.1

-- the effect of a group, where it stands; whether it is tagged
abbrev pub effect_part : Bool → Declared → Typed → Option (ℕ × Items) → Result Effs Fault
effect_part tagged declared params None = Ok no_effs
effect_part true declared params (Some found) = timed_effect_in declared params no_effs found.0 found.1
effect_part false declared params (Some found) = effect_in declared params Plain no_effs found.0 found.1

-- the keyword of the condition
abbrev pub condition_word : Bool → List ℕ
condition_word true = codes ":condition"
condition_word false = codes ":precondition"

-- the conditions and the effects to the end of a schema; whether they are tagged
unfoldable pub body : Bool → Declared → Typed → Items → Result (Conds × Effs) Fault
body tagged declared params items = do
  condition ← part (condition_word tagged) items
  conds ← condition_part tagged declared params condition.0
  effect ← part (codes ":effect") condition.1
  effs ← effect_part tagged declared params effect.0
  _ ← nothing effect.1
  Ok (conds, effs)

-- the duration of a schema, and what follows it: it stands where the schema is durative, and is 1 else
abbrev pub lasting_next : Bool → Declared → Typed → Items → Result (Lasting × Items) Fault
lasting_next true declared params items = after_word (codes ":duration") items >>= (λ rest. duration_next declared params rest)
lasting_next false declared params items = Ok (Fixed 1, items)

-- the atoms of effects
abbrev pub lits_of : List Effect → List Lit
lits_of effects = map (λ (e : Effect). e.lit) effects

-- a schema of its parts
abbrev pub assembled : List ℕ → Typed → Lasting → Conds → Effs → Schema
assembled name params lasting conds effs =
    record {
      name = name;
      kinds = params.kinds;
      dur = lasting;
      pre = conds.pre;
      add = lits_of effs.adds;
      dele = lits_of effs.dels;
      tests = conds.tests;
      absent = conds.absent;
    }

-- what follows the name of a schema; whether it is durative
unfoldable pub schema_after : Bool → Declared → List ℕ → Items → Result Schema Fault
schema_after durative declared name items = do
  params ← parameters declared items
  lasting ← lasting_next durative declared params.0 params.1
  parts ← body durative declared params.0 lasting.1
  Ok (assembled name params.0 lasting.0 parts.0 parts.1)

-- what follows the keyword of a schema, which is to have a new name
unfoldable pub schema_in : Bool → Declared → List (List ℕ) → Items → Result Schema Fault
schema_in durative declared known items = do
  name ← name_at items
  if is_some (place_in known name.1) then Err (Twice name.0) else schema_after durative declared name.1 name.2
