use Rattle.std.proofs.Common.{◌≡◌, ◌<◌, true}
use Rattle.cpt_reach.specs.Kept.{IsListOf}
use Rattle.cpt_reach.specs.Marking.{is_marked}
use Rattle.cpt_reach.proofs.numbers.marked_numbers.Given as goal

abbrev pub invariant-loop-p : goal.invariant-loop-p
invariant-loop-p l = IsListOf (λ q. (q < l.p) × (is_marked l.marks q ≡ true)) l.xs.items
