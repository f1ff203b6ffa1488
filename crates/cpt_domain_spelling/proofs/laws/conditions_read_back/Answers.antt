use Rattle.cpt_domain_spelling.proofs.ConditionLemmas as lemmas
use Rattle.cpt_domain_spelling.proofs.laws.conditions_read_back.Goals as goal

pub returns : goal.returns
returns c = lemmas.conditions_back
