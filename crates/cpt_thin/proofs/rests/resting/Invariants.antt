use Rattle.std.proofs.Common.{◌≡◌, length}
use Rattle.cpt_thin.proofs.rests.resting.Given as goal

abbrev pub invariant-loop-rest : goal.invariant-loop-rest
invariant-loop-rest l = length l.found.items ≡ length l.lines
