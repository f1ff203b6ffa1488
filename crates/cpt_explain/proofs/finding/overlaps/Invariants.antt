use Rattle.cpt_explain.specs.Stages.{AreMetBy, pairs}
use Rattle.cpt_explain.proofs.finding.overlaps.Given as goal

abbrev pub invariant-loop-i : goal.invariant-loop-i
invariant-loop-i l = AreMetBy l.task l.plan (pairs l.i 0) l.faults.items
