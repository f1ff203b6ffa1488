use Rattle.cpt_tables.proofs.DistBounds as lemmas
use Rattle.cpt_tables.proofs.laws.dists_bound.Goals as goal

pub returns : goal.returns
returns c = lemmas.dists_bound
