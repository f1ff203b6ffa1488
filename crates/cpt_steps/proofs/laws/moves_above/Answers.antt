use Rattle.cpt_steps.proofs.AboveLemmas.{moves_above}
use Rattle.cpt_steps.proofs.laws.moves_above.Goals as goal

pub returns : goal.returns
returns c = moves_above
