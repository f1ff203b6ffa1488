use Rattle.std.proofs.Common.{◌≡◌, false, drop}
use Rattle.cpt_line.specs.Names.{name_after}
use Rattle.cpt_line.proofs.names.is_name_after.Given as goal

abbrev pub invariant-loop-i : goal.invariant-loop-i
invariant-loop-i l = name_after l.in_word (drop l.i l.bytes) ≡ name_after false l.bytes
