use Rattle.std.proofs.Common.{◌≡◌, ◌+◌, drop}
use Rattle.cpt_task_text.specs.Reading.{name_length}
use Rattle.cpt_task_text.proofs.fields.length_of_name.Given as goal

abbrev pub invariant-loop-i : goal.invariant-loop-i
invariant-loop-i l = l.i + name_length (drop l.i l.bytes) ≡ name_length l.bytes
