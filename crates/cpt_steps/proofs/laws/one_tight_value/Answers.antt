use Rattle.cpt_steps.proofs.TightLemmas.{one_tight_value}
use Rattle.cpt_steps.proofs.laws.one_tight_value.Goals as goal

pub returns : goal.returns
returns c = one_tight_value
