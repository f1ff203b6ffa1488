use Rattle.cpt_reach.proofs.OneAnswer as lemmas
use Rattle.cpt_reach.proofs.laws.one_pruning.Goals as goal

pub returns : goal.returns
returns c = lemmas.one_pruning
