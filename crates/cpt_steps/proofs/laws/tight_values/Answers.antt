use Rattle.cpt_steps.proofs.TightLemmas.{tight_values}
use Rattle.cpt_steps.proofs.laws.tight_values.Goals as goal

pub returns : goal.returns
returns c = tight_values
