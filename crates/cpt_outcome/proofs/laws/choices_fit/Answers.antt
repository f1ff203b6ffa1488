use Rattle.cpt_outcome.proofs.NodeLemmas.{choices-fit}
use Rattle.cpt_outcome.proofs.laws.choices_fit.Goals as goal

pub returns : goal.returns
returns c = choices-fit
