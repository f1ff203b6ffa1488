use Rattle.cpt_domain_spelling.proofs.DomainLemmas as lemmas
use Rattle.cpt_domain_spelling.proofs.laws.domains_read_back.Goals as goal

pub returns : goal.returns
returns c = lemmas.domain_back
