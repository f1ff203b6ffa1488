use Rattle.cpt_outcome.proofs.OutcomeLemmas.{outcomes-hold}
use Rattle.cpt_outcome.proofs.laws.outcomes_hold.Goals as goal

pub returns : goal.returns
returns c = outcomes-hold
