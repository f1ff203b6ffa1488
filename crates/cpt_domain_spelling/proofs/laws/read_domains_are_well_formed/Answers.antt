use Rattle.cpt_domain_spelling.proofs.DomainReading as lemmas
use Rattle.cpt_domain_spelling.proofs.laws.read_domains_are_well_formed.Goals as goal

pub returns : goal.returns
returns c = lemmas.domain_formed
