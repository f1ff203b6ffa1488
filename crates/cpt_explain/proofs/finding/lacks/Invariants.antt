use Rattle.cpt_explain.specs.Stages.{AreMetBy, needs}
use Rattle.cpt_explain.proofs.finding.lacks.Given as goal

abbrev pub invariant-loop-i : goal.invariant-loop-i
invariant-loop-i l = AreMetBy l.task l.plan (needs l.i 0) l.faults.items
