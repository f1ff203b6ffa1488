use Rattle.cpt_explain.specs.Stages.{AreMetBy, goals}
use Rattle.cpt_explain.proofs.finding.missing.Given as goal

abbrev pub invariant-loop-n : goal.invariant-loop-n
invariant-loop-n l = AreMetBy l.task l.plan (goals l.n) l.faults.items
