use Rattle.cpt_explain.specs.Stages.{AreMetBy, needs}
use Rattle.cpt_explain.proofs.finding.lacks_of.Given as goal

abbrev pub invariant-loop-n : goal.invariant-loop-n
invariant-loop-n l = AreMetBy l.task l.plan (needs l.i l.n) l.faults.items
