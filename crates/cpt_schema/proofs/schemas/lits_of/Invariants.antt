use Rattle.std.proofs.Common.{◌≡◌, ◌++◌, length}
use Rattle.cpt_schema.specs.Schemas.{lits_of}
use Rattle.cpt_schema.proofs.schemas.lits_of.Given as goal

abbrev pub invariant-loop-effects : goal.invariant-loop-effects
invariant-loop-effects l = l.lits.items ++ lits_of l.effects.items ≡ lits_of l.fn.effects.items

abbrev pub decreases-loop-effects : goal.decreases-loop-effects
decreases-loop-effects l = length l.effects.items
