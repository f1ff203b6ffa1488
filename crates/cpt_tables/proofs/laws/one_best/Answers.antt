use Rattle.cpt_tables.proofs.UniqueLemmas as lemmas
use Rattle.cpt_tables.proofs.laws.one_best.Goals as goal

pub returns : goal.returns
returns c = lemmas.one_best
