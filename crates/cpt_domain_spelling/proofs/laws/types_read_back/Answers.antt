use Rattle.cpt_domain_spelling.proofs.KindLemmas as lemmas
use Rattle.cpt_domain_spelling.proofs.laws.types_read_back.Goals as goal

pub returns : goal.returns
returns c = lemmas.kinds_back
