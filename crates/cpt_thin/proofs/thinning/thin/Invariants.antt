use Rattle.std.proofs.Common.{take}
use Rattle.std.specs.List.{AllZip}
use Rattle.cpt_thin.specs.Thinner.{Thins}
use Rattle.cpt_thin.proofs.thinning.thin.Given as goal

abbrev pub invariant-loop-place : goal.invariant-loop-place
invariant-loop-place l = AllZip Thins (take l.place l.fates) l.thinner.items
