use Rattle.std.proofs.Common.{◌≡◌, drop}
use Rattle.cpt_schema.specs.Effects.{has_marked}
use Rattle.cpt_schema.proofs.effects.has_marked.Given as goal

abbrev pub invariant-loop-e : goal.invariant-loop-e
invariant-loop-e l = has_marked (drop l.e-index l.effects) l.lit ≡ has_marked l.effects l.lit
