use Rattle.std.specs.Prelude.{ℕ, ◌==◌, nat_le, Bool, false, ◌&&◌, ◌||◌, if◌then◌else◌, List, [], ◌∷◌, Option, None, Some, Result, Ok, Err, codes}
use Rattle.std.specs.Str.{bytes_eq}
use Rattle.cpt_pddl.specs.declared.fault.Feature.TheVariants as features
use Rattle.cpt_pddl.specs.declared.fault.Fault.{Fault}
use Rattle.cpt_pddl.specs.declared.fault.Fault.TheVariants.{Shape, Feature, Duration}
use Rattle.cpt_pddl.specs.declared.typed.Typed.{Typed}
use Rattle.cpt_pddl.specs.Faults.{◌>>=◌}
use Rattle.cpt_pddl.specs.Items.{Items, end, word, group}
use Rattle.cpt_pddl.specs.Reading.{group_at, nothing}
use Rattle.cpt_pddl.specs.Words.{is_name, number_in}
use Rattle.cpt_declared.specs.declared.declared.Declared.{Declared}
use Rattle.cpt_schema.specs.declared.durations.Lasting.{Lasting}
use Rattle.cpt_schema.specs.declared.durations.Lasting.TheVariants.{Fixed, Value}
use Rattle.cpt_schema.specs.declared.terms.Lit.{Lit}
use Rattle.cpt_schema.specs.Terms.{applied}

-- a number that can be a duration
abbrev pub fixed_by : ℕ → Option ℕ → Result Lasting Fault
fixed_by at None = Err (Duration at)
fixed_by at (Some n) = if nat_le 1 n && nat_le n 100000 then Ok (Fixed n) else Err (Duration at)

-- a duration by its number
unfoldable pub fixed : ℕ → List ℕ → Items → Result Lasting Fault
fixed at bytes rest = do
  lasting ← fixed_by at (number_in bytes)
  _ ← nothing rest
  Ok lasting

-- a function with its terms; the byte of its group
abbrev pub function_term : Declared → Typed → ℕ → Items → Result Lit Fault
function_term declared params atom (end close) = Err (Shape close)
function_term declared params atom (word at bytes rest) =
    if is_name bytes then applied declared params declared.functions atom at bytes rest else Err (Shape at)
function_term declared params atom (group at inside rest) = Err (Shape at)

-- a duration by the value of a function
unfoldable pub valued : Declared → Typed → ℕ → Items → Items → Result Lasting Fault
valued declared params atom inside rest = do
  term ← function_term declared params atom inside
  _ ← nothing rest
  Ok (Value term.pred term.terms)

-- a sum, a difference, a product or a quotient begins with this word
abbrev pub is_sign : List ℕ → Bool
is_sign bytes =
    bytes_eq bytes (codes "+") || bytes_eq bytes (codes "-") || bytes_eq bytes (codes "*") || bytes_eq bytes (codes "/")

-- the group begins with a sign of arithmetic
abbrev pub is_sum : Items → Bool
is_sum (end close) = false
is_sum (word at bytes rest) = is_sign bytes
is_sum (group at inside rest) = false

-- a word that begins with a question mark
abbrev pub is_asked : List ℕ → Bool
is_asked [] = false
is_asked (b ∷ bs) = b == 63

-- what follows the two words of a duration, whose group begins at a byte
abbrev pub duration_value : Declared → Typed → ℕ → Items → Result Lasting Fault
duration_value declared params from (end close) = Err (Shape close)
duration_value declared params from (word at bytes rest) =
    if is_asked bytes then Err (Feature features.Duration from) else fixed at bytes rest
duration_value declared params from (group at inside rest) =
    if is_sum inside then Err (Feature features.Duration from) else valued declared params at inside rest

-- what follows a word, where it stands there
abbrev pub after_this : List ℕ → Items → Option Items
after_this wanted (end close) = None
after_this wanted (word at bytes rest) = if bytes_eq bytes wanted then Some rest else None
after_this wanted (group at inside rest) = None

-- what follows the sign of an equation for a duration
abbrev pub duration_by : Declared → Typed → ℕ → Option Items → Result Lasting Fault
duration_by declared params from None = Err (Feature features.Duration from)
duration_by declared params from (Some rest) = duration_value declared params from rest

-- the duration behind `=`, where that stood
abbrev pub duration_after : Declared → Typed → ℕ → Option Items → Result Lasting Fault
duration_after declared params from None = Err (Feature features.Duration from)
duration_after declared params from (Some rest) = duration_by declared params from (after_this (codes "?duration") rest)

-- what is in the group of a duration
unfoldable pub duration_in : Declared → Typed → ℕ → Items → Result Lasting Fault
duration_in declared params from inside = duration_after declared params from (after_this (codes "=") inside)

-- a duration in its group, and what follows it
unfoldable pub duration_next : Declared → Typed → Items → Result (Lasting × Items) Fault
duration_next declared params items = do
  found ← group_at items
  lasting ← duration_in declared params found.0 found.1
  Ok (lasting, found.2)
