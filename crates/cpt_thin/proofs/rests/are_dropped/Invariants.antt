use Rattle.std.proofs.Common.{◌≡◌, length}
use Rattle.cpt_thin.proofs.rests.are_dropped.Given as goal

abbrev pub invariant-loop-fate : goal.invariant-loop-fate
invariant-loop-fate l = length l.dropped.items ≡ l.fate-index
