use Rattle.cpt_task.proofs.OneVerdict as lemmas
use Rattle.cpt_task.proofs.laws.one_verdict.Goals as goal

pub returns : goal.returns
returns c = lemmas.one_verdict
