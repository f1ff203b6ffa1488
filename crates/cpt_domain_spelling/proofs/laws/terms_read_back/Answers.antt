use Rattle.cpt_domain_spelling.proofs.TermLemmas as lemmas
use Rattle.cpt_domain_spelling.proofs.laws.terms_read_back.Goals as goal

pub returns : goal.returns
returns c = lemmas.applied_back
