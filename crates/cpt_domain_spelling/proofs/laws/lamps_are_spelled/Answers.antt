use Rattle.cpt_domain_spelling.proofs.SampleLemmas as lemmas
use Rattle.cpt_domain_spelling.proofs.laws.lamps_are_spelled.Goals as goal

pub returns : goal.returns
returns c = lemmas.lamps_spelled
