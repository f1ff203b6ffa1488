use Rattle.std.specs.Prelude.{ℕ, nat_eq, List, ◌∷◌, Option, Some, MatchOption, Vec}
use Rattle.std.specs.HashMap.{HashMap, get_by}
use Rattle.std.specs.Cmp.Lexicographic.{pointwise}
use Rattle.std.specs.declared.alloc.Global.{Global}
use Rattle.std.specs.declared.hash.FoldHasher.{FoldHasher}
use Rattle.std.specs.declared.hash.BuildHasherDefault.{BuildHasherDefault}
use Rattle.cpt_schema.specs.declared.durations.Lasting.{Lasting}
use Rattle.cpt_schema.specs.declared.durations.Lasting.TheVariants.{Fixed, Value}
use Rattle.cpt_facts.specs.declared.problem.Valued.{Valued}
use Rattle.cpt_instance.specs.Instances.{objects_for}
use Rattle.cpt_instance.specs.Values.{IsValueIn}

-- values by the function's number with the objects behind it
abbrev pub ValueMap : Type 0
ValueMap = HashMap (Vec ℕ Global) ℕ (BuildHasherDefault FoldHasher)

-- what the map has at these numbers
abbrev pub value_in : ValueMap → List ℕ → Option ℕ
value_in m key = get_by (λ k. pointwise nat_eq key k.items) m

-- the map has a value exactly where the list has one
abbrev pub HasValues : List Valued → ValueMap → Type 0
HasValues values m = (func : ℕ) (args : List ℕ) → MatchOption (value_in m (func ∷ args)) ((n : ℕ) → IsValueIn values func args n → ⊥) (IsValueIn values func args)

-- the duration at these objects: the fixed one, or what the map has
abbrev pub duration_in : ValueMap → List ℕ → Lasting → Option ℕ
duration_in m args (Fixed n) = Some n
duration_in m args (Value func terms) = value_in m (func ∷ objects_for args terms)
