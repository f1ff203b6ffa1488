use Rattle.std.proofs.Common.{◌≡◌, take}
use Rattle.cpt_trim.specs.Fates.{numbers_of}
use Rattle.cpt_trim.proofs.fates.numbers_of.Given as goal

abbrev pub invariant-loop-place : goal.invariant-loop-place
invariant-loop-place l = l.numbers.items ≡ numbers_of 1 (take l.place l.fates)
