use Rattle.std.proofs.Common.{◌≡◌, ℕ, ◌<◌, false, get_or}
use Rattle.cpt_sheet.specs.View.{pair_lt}
use Rattle.cpt_edits.proofs.changing.place_of.Given as goal

abbrev pub invariant-loop-i : goal.invariant-loop-i
invariant-loop-i l = (k : ℕ) → k < l.i → pair_lt l.first l.second (get_or l.orders k (0, 0)).0 (get_or l.orders k (0, 0)).1 ≡ false
