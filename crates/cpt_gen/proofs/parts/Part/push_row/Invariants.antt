use Rattle.std.proofs.Common.{◌≡◌, ◌++◌, string_bytes}
use Rattle.std.specs.List.{flat_map, range_with_len}
use Rattle.cpt_gen.specs.Parts.{part_text}
use Rattle.cpt_gen.proofs.parts.Part.push_row.Given as goal

abbrev pub invariant-loop-k : goal.invariant-loop-k
invariant-loop-k l = string_bytes l.text ≡ string_bytes l.fn.text ++ flat_map (part_text l.n l.self) (range_with_len l.first l.k)
