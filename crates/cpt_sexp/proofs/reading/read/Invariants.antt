use Rattle.std.proofs.Common.{◌-◌, length}
use Rattle.cpt_sexp.specs.Progress.{HasRead}
use Rattle.cpt_sexp.proofs.reading.read.Given as goal

abbrev pub invariant-loop-at : goal.invariant-loop-at
invariant-loop-at l = HasRead l.text l.reading.items.items l.reading.opened.items l.at

abbrev pub decreases-loop-at : goal.decreases-loop-at
decreases-loop-at l = length l.text - l.at
