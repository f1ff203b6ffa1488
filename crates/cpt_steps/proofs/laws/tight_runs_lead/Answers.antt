use Rattle.cpt_steps.proofs.RunLemmas.{tight_runs_lead}
use Rattle.cpt_steps.proofs.laws.tight_runs_lead.Goals as goal

pub returns : goal.returns
returns c = tight_runs_lead
