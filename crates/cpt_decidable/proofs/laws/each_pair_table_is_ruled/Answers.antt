use Rattle.cpt_decidable.proofs.Faults as lemmas
use Rattle.cpt_decidable.proofs.laws.each_pair_table_is_ruled.Goals as goal

pub returns : goal.returns
returns c = lemmas.pairs_ruled
