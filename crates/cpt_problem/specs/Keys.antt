use Rattle.std.specs.Prelude.{◌≡◌, ℕ, nat_eq, List, ◌∷◌, Vec}
use Rattle.std.specs.declared.alloc.Global.{Global}
use Rattle.std.specs.List.{list_any}
use Rattle.std.specs.Str.{bytes_eq}
use Rattle.cpt_schema.specs.declared.schemas.Schema.{Schema}
use Rattle.cpt_facts.specs.declared.problem.Valued.{Valued}
use Rattle.cpt_problem.specs.Inits.{has_value}
use Rattle.cpt_problem.specs.Tables.{is_duration_function}

-- a key stands for each value: its function, and then its objects
abbrev pub AreKeysOf : List Valued → List (Vec ℕ Global) → Type 0
AreKeysOf values keys = (func : ℕ) (args : List ℕ) → list_any (λ (key : Vec ℕ Global). bytes_eq (func ∷ args) key.items) keys ≡ has_value values func args

-- these are the functions that durations are values of
abbrev pub AreDurationFunctions : List Schema → List ℕ → Type 0
AreDurationFunctions schemas functions = (func : ℕ) → list_any (nat_eq func) functions ≡ is_duration_function schemas func
