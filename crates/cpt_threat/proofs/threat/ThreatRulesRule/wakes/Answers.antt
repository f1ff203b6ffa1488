use Rattle.std.proofs.Common.{◌∷◌, []}
use Rattle.cpt_threat.proofs.threat.ThreatRulesRule.wakes.Goals as goal

pub returns : goal.returns
returns c = λ e. c.can_wake.ensures e (8 ∷ 9 ∷ [])
