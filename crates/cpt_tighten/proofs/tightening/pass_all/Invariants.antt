use Rattle.cpt_tighten.specs.Links.{IsUnderway}
use Rattle.cpt_tighten.proofs.tightening.pass_all.Given as goal

abbrev pub invariant-loop-k : goal.invariant-loop-k
invariant-loop-k l = IsUnderway l.task l.plan l.events l.k l.tight l.links l.records
