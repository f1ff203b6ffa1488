use Rattle.std.proofs.Common.{◌-◌, length, take}
use Rattle.cpt_index.specs.Index.{IsIndexOf, kinds_in}
use Rattle.cpt_index.proofs.index.Index.shorten.Given as goal

abbrev pub invariant-loop-place : goal.invariant-loop-place
invariant-loop-place l = IsIndexOf l.task (take (length (kinds_in l.initial.self) - l.place) (kinds_in l.initial.self)) l.self
