use Rattle.std.proofs.Common.{get_or}
use Rattle.cpt_branch.specs.Choosing.{AreBelow, IsFirstOf, IsThreatBy}
use Rattle.cpt_branch.proofs.choosing.first_threat.Given as goal

abbrev pub invariant-loop-foe : goal.invariant-loop-foe
invariant-loop-foe l = IsFirstOf l.store.sheet (AreBelow (λ i. IsThreatBy l.store.task l.store.sheet l.x l.p (get_or l.foes i 0)) l.foe-index) l.first
