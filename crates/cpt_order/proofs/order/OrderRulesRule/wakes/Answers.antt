use Rattle.std.proofs.Common.{◌∷◌, []}
use Rattle.cpt_order.proofs.order.OrderRulesRule.wakes.Goals as goal

pub returns : goal.returns
returns c = λ e. c.can_wake.ensures e (1 ∷ 2 ∷ 3 ∷ [])
