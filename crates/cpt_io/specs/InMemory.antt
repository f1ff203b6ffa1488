use Rattle.std.specs.Prelude.{ℕ, Bool, ◌==◌, if◌then◌else◌, List, length, drop, Option, None, Some, Contains}
use Rattle.cpt_io.specs.Meaning.{Files}
use Rattle.cpt_io.specs.Entries.{held, bytes_at}
use Rattle.cpt_io.specs.declared.memory.MemLibrary.{MemLibrary}

-- what a library in memory holds
abbrev pub mem_holds : MemLibrary → Option Files
mem_holds m = Some (held m.files.items)

-- what it has left
abbrev pub mem_left : MemLibrary → Option (List ℕ)
mem_left m = if m.told then Some (drop m.at (bytes_at m.files.items m.place)) else None

-- how many of its calls have failed
abbrev pub mem_faults : MemLibrary → ℕ
mem_faults m = m.faults

-- how many calls it has had, which is the number of the next one
abbrev pub mem_calls : MemLibrary → ℕ
mem_calls m = m.calls

-- the numbers of the calls that are made to fail
abbrev pub mem_fails : MemLibrary → List ℕ
mem_fails m = m.fail.items

-- the most bytes that one pull gives
abbrev pub mem_most : MemLibrary → ℕ
mem_most m = m.most

-- whether no call is made to fail
abbrev pub mem_steady : MemLibrary → Bool
mem_steady m = length (mem_fails m) == 0

-- the next call is made to fail
abbrev pub IsFailing : MemLibrary → Type 0
IsFailing m = Contains (mem_fails m) (mem_calls m)
