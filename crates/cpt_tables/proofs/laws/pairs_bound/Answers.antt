use Rattle.cpt_tables.proofs.PairBounds as lemmas
use Rattle.cpt_tables.proofs.laws.pairs_bound.Goals as goal

pub returns : goal.returns
returns c = lemmas.pairs_bound
