use Rattle.std.specs.Prelude.{◌≡◌, ℕ, ◌+◌, ◌<◌, ◌≤◌, List, ◌++◌, length, take, Option, Some, Contains}
use Rattle.cpt_io.specs.declared.sink.MemSink.{MemSink}

-- what was written to a sink in memory
abbrev pub mem_written : MemSink → Option (List ℕ)
mem_written s = Some s.bytes.items

-- how many of its puts have failed
abbrev pub sink_faults : MemSink → ℕ
sink_faults s = s.faults

-- how many puts it has had, which is the number of the next one
abbrev pub sink_calls : MemSink → ℕ
sink_calls s = s.calls

-- the numbers of the puts that are made to fail
abbrev pub sink_fails : MemSink → List ℕ
sink_fails s = s.fail.items

-- how many bytes it can hold
abbrev pub sink_room : MemSink → ℕ
sink_room s = s.room

-- the next put is made to fail
abbrev pub IsFailingPut : MemSink → Type 0
IsFailingPut s = Contains (sink_fails s) (sink_calls s)

-- the piece fits in the room behind what was written
abbrev pub HasRoom : MemSink → List ℕ → Type 0
HasRoom s piece = length s.bytes.items + length piece ≤ s.room

-- the piece does not fit in the room, and the part that fits was appended
abbrev pub FillsUp : MemSink → MemSink → List ℕ → Type 0
FillsUp old new piece = (old.room < length old.bytes.items + length piece) × (new.bytes.items ≡ take old.room (old.bytes.items ++ piece))
