use Rattle.std.specs.Prelude.{ℕ, Bool, true, false, if◌then◌else◌, List, Option, None, Some, Result, Ok, Err, codes}
use Rattle.std.specs.Str.{bytes_eq}
use Rattle.cpt_pddl.specs.declared.fault.Feature.TheVariants as features
use Rattle.cpt_pddl.specs.declared.fault.Fault.{Fault}
use Rattle.cpt_pddl.specs.declared.fault.Fault.TheVariants.{Shape, Feature, OtherDomain}
use Rattle.cpt_pddl.specs.declared.typed.Sort.TheVariants.{Objects}
use Rattle.cpt_pddl.specs.Faults.{◌>>=◌}
use Rattle.cpt_pddl.specs.Items.{Items, end, word, group}
use Rattle.cpt_pddl.specs.Reading.{after_word, group_at, name_at, nothing}
use Rattle.cpt_pddl.specs.Typed.{typed_list}
use Rattle.cpt_declared.specs.declared.declared.Declared.{Declared}
use Rattle.cpt_declared.specs.Signatures.{words_only}

-- a section of a problem that is not taken
abbrev pub is_untaken : List ℕ → Bool
is_untaken bytes =
    if bytes_eq bytes (codes ":derived") then true
    else if bytes_eq bytes (codes ":constraints") then true
    else if bytes_eq bytes (codes ":process") then true
    else if bytes_eq bytes (codes ":event") then true
    else bytes_eq bytes (codes ":functions")

-- a section that may not stand here; its byte, and that of its keyword
abbrev pub misplaced : ℕ → ℕ → List ℕ → Fault
misplaced at keyword bytes = if is_untaken bytes then Feature features.Section at else Shape keyword

-- what follows the keyword in the group of a section, which begins at a byte
abbrev pub after_keyword : List ℕ → ℕ → Items → Result Items Fault
after_keyword wanted at (end close) = Err (Shape close)
after_keyword wanted at (word keyword bytes rest) = if bytes_eq bytes wanted then Ok rest else Err (misplaced at keyword bytes)
after_keyword wanted at (group a inside rest) = Err (Shape a)

-- a section that has to stand: what follows its keyword, and what follows it
unfoldable pub section : List ℕ → Items → Result (Items × Items) Fault
section wanted items = do
  found ← group_at items
  inside ← after_keyword wanted found.0 found.1
  Ok (inside, found.2)

-- a section that may stand: its byte, what follows its keyword, and what follows it
abbrev pub optional : List ℕ → Items → Option (ℕ × Items × Items)
optional wanted (end close) = None
optional wanted (word at bytes rest) = None
optional wanted (group at (end close) rest) = None
optional wanted (group at (word keyword bytes inside) rest) = if bytes_eq bytes wanted then Some (at, inside, rest) else None
optional wanted (group at (group a within inside) rest) = None

-- the name of a problem, in its group
unfoldable pub name_in : Items → Result (Unit {0}) Fault
name_in items = do
  rest ← after_word (codes "problem") items
  name ← name_at rest
  nothing name.2

-- the name of the domain at a byte
abbrev pub same_name : List ℕ → ℕ → List ℕ → Result (Unit {0}) Fault
same_name name at bytes = if bytes_eq bytes name then Ok tt else Err (OtherDomain at)

-- the name of the domain, and nothing more
unfoldable pub same_domain : List ℕ → Items → Result (Unit {0}) Fault
same_domain name items = do
  found ← name_at items
  _ ← same_name name found.0 found.1
  nothing found.2

-- what follows the requirements, if they stand
abbrev pub requirements_by : Items → Option (ℕ × Items × Items) → Result Items Fault
requirements_by items None = Ok items
requirements_by items (Some part) = words_only part.1 >>= (λ _. Ok part.2)

-- what follows the section of requirements, where there is one
unfoldable pub after_requirements : Items → Result Items Fault
after_requirements items = requirements_by items (optional (codes ":requirements") items)

-- what is declared with the objects of the problem after the constants, and what follows them, if they stand
abbrev pub objects_by : Declared → Items → Option (ℕ × Items × Items) → Result (Declared × Items) Fault
objects_by declared items None = Ok (declared, items)
objects_by declared items (Some part) =
    typed_list Objects declared.types.names declared.constants part.1 >>= (λ objects. Ok (record declared { constants = objects }, part.2))

-- what is declared with the section of objects, where there is one, and what follows it
unfoldable pub after_objects : Declared → Items → Result (Declared × Items) Fault
after_objects declared items = objects_by declared items (optional (codes ":objects") items)

-- nothing is left
abbrev pub is_end : Items → Bool
is_end (end close) = true
is_end (word at bytes rest) = false
is_end (group at inside rest) = false

-- this word alone
abbrev pub is_alone : List ℕ → Items → Bool
is_alone wanted (end close) = false
is_alone wanted (word at bytes rest) = if bytes_eq bytes wanted then is_end rest else false
is_alone wanted (group at inside rest) = false

-- the total time, in parentheses or not
abbrev pub is_total_time : Items → Bool
is_total_time (end close) = false
is_total_time (word at bytes rest) = is_alone (codes "total-time") (word at bytes rest)
is_total_time (group at inside rest) = if is_alone (codes "total-time") inside then is_end rest else false

-- the one metric that is taken
abbrev pub is_metric : Items → Bool
is_metric (end close) = false
is_metric (word at bytes rest) = if bytes_eq bytes (codes "minimize") then is_total_time rest else false
is_metric (group at inside rest) = false

-- what is in the group of a section where none of its kind may stand
abbrev pub other_section : ℕ → Items → Fault
other_section at (end close) = Shape close
other_section at (word keyword bytes rest) = misplaced at keyword bytes
other_section at (group a inside rest) = Shape a

-- no section more
abbrev pub no_section : Items → Result (Unit {0}) Fault
no_section (end close) = Ok tt
no_section (word at bytes rest) = Err (Shape at)
no_section (group at inside rest) = Err (other_section at inside)

-- the metric, if it stands, and then nothing more
abbrev pub metric_by : Items → Option (ℕ × Items × Items) → Result (Unit {0}) Fault
metric_by items None = no_section items
metric_by items (Some part) = if is_metric part.1 then nothing part.2 else Err (Feature features.Metric part.0)

-- the section of the metric, where there is one, and the end
unfoldable pub metric_end : Items → Result (Unit {0}) Fault
metric_end items = metric_by items (optional (codes ":metric") items)
