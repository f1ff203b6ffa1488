use Rattle.std.proofs.Common.{◌∷◌, []}
use Rattle.cpt_support.proofs.support.SupportRulesRule.wakes.Goals as goal

pub returns : goal.returns
returns c = λ e. c.can_wake.ensures e (4 ∷ 5 ∷ 6 ∷ 7 ∷ [])
