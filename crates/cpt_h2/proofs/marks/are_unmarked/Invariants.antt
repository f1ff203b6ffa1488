use Rattle.std.proofs.Common.{◌≡◌, All, take, get_or, true, false}
use Rattle.cpt_h2.proofs.marks.are_unmarked.Given as goal

abbrev pub invariant-loop-p : goal.invariant-loop-p
invariant-loop-p l = All (λ p. get_or l.atoms p true ≡ false) (take l.p-index l.ps)
