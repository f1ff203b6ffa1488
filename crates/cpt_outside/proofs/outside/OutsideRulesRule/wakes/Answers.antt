use Rattle.std.proofs.Common.{◌∷◌, []}
use Rattle.cpt_outside.proofs.outside.OutsideRulesRule.wakes.Goals as goal

pub returns : goal.returns
returns c = λ e. c.can_wake.ensures e (10 ∷ 11 ∷ 12 ∷ 13 ∷ [])
