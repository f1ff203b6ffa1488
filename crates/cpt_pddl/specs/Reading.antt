use Rattle.std.specs.Prelude.{ℕ, if◌then◌else◌, List, Result, Ok, Err}
use Rattle.std.specs.Str.{bytes_eq}
use Rattle.cpt_pddl.specs.declared.fault.Fault.{Fault}
use Rattle.cpt_pddl.specs.declared.fault.Fault.TheVariants.{Shape}
use Rattle.cpt_pddl.specs.Items.{Items, end, word, group}
use Rattle.cpt_pddl.specs.Words.{is_name}

-- nothing more
abbrev pub nothing : Items → Result (Unit {0}) Fault
nothing (end close) = Ok tt
nothing (word at bytes rest) = Err (Shape at)
nothing (group at inside rest) = Err (Shape at)

-- this word, and then what follows it
abbrev pub after_word : List ℕ → Items → Result Items Fault
after_word wanted (end close) = Err (Shape close)
after_word wanted (word at bytes rest) = if bytes_eq bytes wanted then Ok rest else Err (Shape at)
after_word wanted (group at inside rest) = Err (Shape at)

-- a name with its place, and what follows it
abbrev pub name_at : Items → Result (ℕ × List ℕ × Items) Fault
name_at (end close) = Err (Shape close)
name_at (word at bytes rest) = if is_name bytes then Ok (at, bytes, rest) else Err (Shape at)
name_at (group at inside rest) = Err (Shape at)

-- a group: its place, what is in it, and what follows it
abbrev pub group_at : Items → Result (ℕ × Items × Items) Fault
group_at (end close) = Err (Shape close)
group_at (word at bytes rest) = Err (Shape at)
group_at (group at inside rest) = Ok (at, inside, rest)
