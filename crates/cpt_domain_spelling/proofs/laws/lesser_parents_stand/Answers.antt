use Rattle.cpt_domain_spelling.proofs.OrderLemmas as lemmas
use Rattle.cpt_domain_spelling.proofs.laws.lesser_parents_stand.Goals as goal

pub returns : goal.returns
returns c = lemmas.lesser_stand
