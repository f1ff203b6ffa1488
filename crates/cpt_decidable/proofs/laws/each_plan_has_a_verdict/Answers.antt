use Rattle.cpt_decidable.proofs.Verdicts as lemmas
use Rattle.cpt_decidable.proofs.laws.each_plan_has_a_verdict.Goals as goal

pub returns : goal.returns
returns c = lemmas.verdict_of
