use Rattle.std.specs.Prelude.{ℕ, ◌==◌, Bool, true, false, ◌&&◌, not, if◌then◌else◌, List, [], ◌∷◌, ◌++◌, length, drop, slice_set, Option, None, Some, Result, Ok, Err, codes}
use Rattle.std.specs.Str.{bytes_eq}
use Rattle.cpt_declared.specs.declared.kinds.Kinds.{Kinds}
use Rattle.cpt_pddl.specs.declared.fault.Fault.{Fault}
use Rattle.cpt_pddl.specs.declared.fault.Fault.TheVariants as faults
use Rattle.cpt_pddl.specs.Faults.{◌>>=◌}
use Rattle.cpt_pddl.specs.Items.{Items, end, word, group}
unfoldable pub use Rattle.cpt_pddl.specs.Kinds.{is_rooted}
use Rattle.cpt_pddl.specs.Names.{place_in}
use Rattle.cpt_pddl.specs.Typed.{type_group}
use Rattle.cpt_pddl.specs.Words.{is_name}

-- A list of types being read: the types by their first places, the parent of each, which of them were entered,
-- in order, how many of those entries have their parent, and whether a dash was last.
pub record KindRun : Type 0 where
  pub names : List (List ℕ)
  pub parents : List ℕ
  pub entered : List ℕ
  pub parented : ℕ
  pub dash : Bool

-- a type is among some types
abbrev pub has : List ℕ → ℕ → Bool
has [] kind = false
has (k ∷ kinds) kind = if k == kind then true else has kinds kind

-- a type that was entered, other than object
abbrev pub is_entered : List ℕ → ℕ → Bool
is_entered entered kind = not (kind == 0) && has entered kind

-- an entry: a new type, or one that stood as a parent only, or object once more
abbrev pub entered_as : KindRun → ℕ → List ℕ → Option ℕ → Result KindRun Fault
entered_as run at bytes None =
    Ok (record run { names = run.names ++ bytes ∷ []; parents = run.parents ++ 0 ∷ []; entered = run.entered ++ length run.names ∷ [] })
entered_as run at bytes (Some kind) =
    if is_entered run.entered kind then Err (faults.Twice at) else Ok (record run { entered = run.entered ++ kind ∷ [] })

-- the parents, where these types get this one
abbrev pub adopted : ℕ → List ℕ → List ℕ → List ℕ
adopted parent [] parents = parents
adopted parent (kind ∷ kinds) parents = adopted parent kinds (slice_set parents kind parent)

-- the parents, where these types get this one; object as a parent changes nothing
abbrev pub below_parent : ℕ → List ℕ → List ℕ → List ℕ
below_parent parent kinds parents = if parent == 0 then parents else adopted parent kinds parents

-- the parent of the entries that have none: a type that stood before, or a new one
abbrev pub parent_as : KindRun → List ℕ → Option ℕ → KindRun
parent_as run bytes None =
    record run { names = run.names ++ bytes ∷ []; parents = below_parent (length run.names) (drop run.parented run.entered) (run.parents ++ 0 ∷ []); parented = length run.entered; dash = false }
parent_as run bytes (Some parent) =
    record run { parents = below_parent parent (drop run.parented run.entered) run.parents; parented = length run.entered; dash = false }

-- a dash, behind at least one entry
unfoldable pub dashed : KindRun → ℕ → Result KindRun Fault
dashed run at = if length run.entered == run.parented then Err (faults.Shape at) else Ok (record run { dash = true })

-- a word of a list of types
unfoldable pub taken : KindRun → ℕ → List ℕ → Result KindRun Fault
taken run at bytes =
    if run.dash then (if is_name bytes then Ok (parent_as run bytes (place_in run.names bytes)) else Err (faults.Shape at))
    else if bytes_eq bytes (codes "-") then dashed run at
    else if is_name bytes then entered_as run at bytes (place_in run.names bytes)
    else Err (faults.Shape at)

-- the end of a list of types, which stands in the section at a byte
unfoldable pub finished : ℕ → KindRun → ℕ → Result Kinds Fault
finished section run close =
    if run.dash then Err (faults.Shape close)
    else if is_rooted run.parents then Ok (record { names = run.names; parents = run.parents })
    else Err (faults.BadType section)

-- a group in a list of types is a fault
abbrev pub misplaced : KindRun → ℕ → Items → Fault
misplaced run at inside = if run.dash then type_group at inside else faults.Shape at

-- the rest of a list of types
abbrev pub kinds_rest : ℕ → KindRun → Items → Result Kinds Fault
kinds_rest section run (end close) = finished section run close
kinds_rest section run (word at bytes rest) = taken run at bytes >>= (λ next. kinds_rest section next rest)
kinds_rest section run (group at inside rest) = Err (misplaced run at inside)

-- the one type that is always there
abbrev pub object_alone : Kinds
object_alone = record { names = codes "object" ∷ []; parents = 0 ∷ [] }

-- before the first entry
abbrev pub start : KindRun
start = record { names = codes "object" ∷ []; parents = 0 ∷ []; entered = []; parented = 0; dash = false }

-- the types of a section that begins at a byte
unfoldable pub kinds_in : ℕ → Items → Result Kinds Fault
kinds_in section items = kinds_rest section start items
