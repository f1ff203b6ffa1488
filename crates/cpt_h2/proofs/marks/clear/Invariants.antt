use Rattle.std.proofs.Common.{ℕ, ◌<◌, ◌≡◌, get_or, true, false}
use Rattle.cpt_h2.proofs.marks.clear.Given as goal

abbrev pub invariant-loop-mark : goal.invariant-loop-mark
invariant-loop-mark l = (k : ℕ) → k < l.mark-index → get_or l.atoms k true ≡ false
