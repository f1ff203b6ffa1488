use Rattle.std.specs.Prelude.{ℕ, ◌-◌, ◌==◌, nat_le, Bool, true, false, if◌then◌else◌, is_some, List, [], ◌∷◌, ◌++◌, length, replicate, Result, Ok, Err, codes}
use Rattle.std.specs.Str.{bytes_eq}
use Rattle.cpt_task.specs.declared.memory.Limit.{Limit}
use Rattle.cpt_task.specs.declared.memory.Limit.TheVariants as limits
use Rattle.cpt_pddl.specs.declared.fault.Feature.TheVariants.{Either}
use Rattle.cpt_pddl.specs.declared.fault.Fault.{Fault}
use Rattle.cpt_pddl.specs.declared.fault.Fault.TheVariants as faults
use Rattle.cpt_pddl.specs.declared.typed.Sort.{Sort}
use Rattle.cpt_pddl.specs.declared.typed.Sort.TheVariants.{Objects, Variables}
use Rattle.cpt_pddl.specs.declared.typed.Typed.{Typed}
use Rattle.cpt_pddl.specs.Faults.{◌>>=◌, or_fault}
use Rattle.cpt_pddl.specs.Items.{Items, end, word, group}
use Rattle.cpt_pddl.specs.Names.{place_in}
use Rattle.cpt_pddl.specs.Words.{is_name, is_variable}

-- what a group in the place of a type is: a choice of types is not taken
abbrev pub type_group : ℕ → Items → Fault
type_group at (end close) = faults.Shape at
type_group at (word a bytes rest) = if bytes_eq bytes (codes "either") then faults.Feature Either at else faults.Shape at
type_group at (group a inside rest) = faults.Shape at

-- the number of a type, by the word that stands in its place
abbrev pub type_word : List (List ℕ) → ℕ → List ℕ → Result ℕ Fault
type_word types at bytes = if is_name bytes then or_fault (faults.BadName at) (place_in types bytes) else Err (faults.Shape at)

-- whether a word can name something of this sort
abbrev pub fits_sort : Sort → List ℕ → Bool
fits_sort Objects bytes = is_name bytes
fits_sort Variables bytes = is_variable bytes

-- how many of this sort one list may have, and the limit's name
abbrev pub most : Sort → ℕ
most Objects = 4096
most Variables = 16

-- the limit on lists of this sort
abbrev pub limit_of : Sort → Limit
limit_of Objects = limits.Objects
limit_of Variables = limits.Parameters

-- the names with one more, which is not among them
unfoldable pub declared : Sort → List (List ℕ) → ℕ → List ℕ → Result (List (List ℕ)) Fault
declared sort names at bytes =
    if fits_sort sort bytes then
    if is_some (place_in names bytes) then Err (faults.Twice at)
    else if nat_le (most sort) (length names) then Err (faults.Limit (limit_of sort) at)
    else Ok (names ++ bytes ∷ [])
    else Err (faults.Shape at)

-- a typed list without names
abbrev pub no_names : Typed
no_names = record { names = []; kinds = [] }

-- a typed list being read: the names so far, the types of those whose run has ended, and whether a dash was last
pub record Run : Type 0 where
  pub names : List (List ℕ)
  pub kinds : List ℕ
  pub dash : Bool

-- each name that has no type yet has this one
abbrev pub padded : ℕ → ℕ → List ℕ → List ℕ
padded len kind kinds = kinds ++ replicate (len - length kinds) kind

-- a run's dash, behind at least one name
unfoldable pub dashed : Run → ℕ → Result Run Fault
dashed run at = if length run.names == length run.kinds then Err (faults.Shape at) else Ok (record run { dash = true })

-- a run's type
unfoldable pub typed_as : List (List ℕ) → Run → ℕ → List ℕ → Result Run Fault
typed_as types run at bytes = do
  kind ← type_word types at bytes
  Ok (record { names = run.names; kinds = padded (length run.names) kind run.kinds; dash = false })

-- a run's name
unfoldable pub named : Sort → Run → ℕ → List ℕ → Result Run Fault
named sort run at bytes = do
  names ← declared sort run.names at bytes
  Ok (record run { names = names })

-- a word of a typed list
unfoldable pub taken : Sort → List (List ℕ) → Run → ℕ → List ℕ → Result Run Fault
taken sort types run at bytes =
    if run.dash then typed_as types run at bytes
    else if bytes_eq bytes (codes "-") then dashed run at
    else named sort run at bytes

-- the end of a typed list: names without a type are of the type with number 0
unfoldable pub finished : Run → ℕ → Result Typed Fault
finished run close =
    if run.dash then Err (faults.Shape close)
    else Ok (record { names = run.names; kinds = padded (length run.names) 0 run.kinds })

-- a group in a typed list is a fault
abbrev pub misplaced : Run → ℕ → Items → Fault
misplaced run at inside = if run.dash then type_group at inside else faults.Shape at

-- the rest of a typed list
abbrev pub typed_rest : Sort → List (List ℕ) → Run → Items → Result Typed Fault
typed_rest sort types run (end close) = finished run close
typed_rest sort types run (word at bytes rest) = taken sort types run at bytes >>= (λ next. typed_rest sort types next rest)
typed_rest sort types run (group at inside rest) = Err (misplaced run at inside)

-- names or variables with their types, by number, after those that are known: runs of names, each ended by a dash and a type
unfoldable pub typed_list : Sort → List (List ℕ) → Typed → Items → Result Typed Fault
typed_list sort types known items = typed_rest sort types (record { names = known.names; kinds = known.kinds; dash = false }) items
