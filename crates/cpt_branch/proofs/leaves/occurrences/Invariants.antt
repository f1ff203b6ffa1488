use Rattle.std.proofs.Common.{◌≡◌, ◌-◌, map, take, drop}
use Rattle.cpt_outcome.specs.Leaves.{occurrence_of}
use Rattle.cpt_branch.proofs.leaves.occurrences.Given as goal

abbrev pub invariant-loop-tok : goal.invariant-loop-tok
invariant-loop-tok l = l.made.items ≡ map occurrence_of (take (l.tok - 2) (drop 2 l.store.sheet.tokens))
