use Rattle.cpt_steps.proofs.RunLemmas.{tight_runs_append}
use Rattle.cpt_steps.proofs.laws.tight_runs_append.Goals as goal

pub returns : goal.returns
returns c = tight_runs_append
