use Rattle.std.proofs.Common.{◌≡◌, drop}
use Rattle.cpt_io.specs.Entries.{held}
use Rattle.cpt_io.proofs.entries.place_of.Given as goal

abbrev pub invariant-loop-place : goal.invariant-loop-place
invariant-loop-place l = held (drop l.place l.files) l.name ≡ held l.files l.name
