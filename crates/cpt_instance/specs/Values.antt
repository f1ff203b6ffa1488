use Rattle.std.specs.Prelude.{◌≡◌, ℕ, List, Contains}
use Rattle.cpt_facts.specs.declared.problem.Valued.{Valued}

-- a value of this function for these objects
abbrev pub IsValueOf : ℕ → List ℕ → Valued → Type 0
IsValueOf func args v = (v.func ≡ func) × (v.args ≡ args)

-- the list has this value of the function for the objects
abbrev pub IsValueIn : List Valued → ℕ → List ℕ → ℕ → Type 0
IsValueIn values func args n = Contains values (record { func = func; args = args; value = n })
