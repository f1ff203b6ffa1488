use Rattle.std.proofs.Common.{◌≡◌, ◌+◌, drop}
use Rattle.cpt_plan_text.specs.Grammar.{zero_count}
use Rattle.cpt_plan_text.proofs.line.count_zeros.Given as goal

abbrev pub invariant-loop-i : goal.invariant-loop-i
invariant-loop-i l = l.i + zero_count (drop l.i l.bytes) ≡ zero_count l.bytes
