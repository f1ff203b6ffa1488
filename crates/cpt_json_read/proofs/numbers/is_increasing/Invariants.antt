use Rattle.std.proofs.Common.{ℕ, ◌+◌, ◌<◌, length, get_or}
use Rattle.cpt_json_read.proofs.numbers.is_increasing.Given as goal

abbrev pub invariant-loop-i : goal.invariant-loop-i
invariant-loop-i l = (k : ℕ) → k < l.i → k + 1 < length l.numbers → get_or l.numbers k 0 < get_or l.numbers (k + 1) 0
