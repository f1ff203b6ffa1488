use Rattle.cpt_steps.proofs.RunLemmas.{runs_append}
use Rattle.cpt_steps.proofs.laws.runs_append.Goals as goal

pub returns : goal.returns
returns c = runs_append
