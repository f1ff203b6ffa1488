use Rattle.cpt_explain.specs.Stages.{AreMetBy, pairs}
use Rattle.cpt_explain.proofs.finding.overlaps_of.Given as goal

abbrev pub invariant-loop-j : goal.invariant-loop-j
invariant-loop-j l = AreMetBy l.task l.plan (pairs l.i l.j) l.faults.items
