use Rattle.cpt_steps.proofs.TightLemmas.{gaps_are_small}
use Rattle.cpt_steps.proofs.laws.gaps_are_small.Goals as goal

pub returns : goal.returns
returns c = gaps_are_small
