use Rattle.std.proofs.Common.{◌≡◌, ◌++◌, reverse, length}
use Rattle.std.specs.List.{zip}
use Rattle.cpt_pddl.proofs.pairs.paired.Given as goal

-- the pairs so far and those of what is left are all
abbrev pub invariant-loop-first : goal.invariant-loop-first
invariant-loop-first g l = l.pairs.items ++ zip (reverse l.firsts.items) (reverse l.seconds.items) ≡ zip l.fn.firsts.items l.fn.seconds.items

abbrev pub decreases-loop-first : goal.decreases-loop-first
decreases-loop-first g l = length l.firsts.items
