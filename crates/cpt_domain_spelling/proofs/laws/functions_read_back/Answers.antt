use Rattle.cpt_domain_spelling.proofs.SignatureLemmas as lemmas
use Rattle.cpt_domain_spelling.proofs.laws.functions_read_back.Goals as goal

pub returns : goal.returns
returns c = lemmas.functions_back
