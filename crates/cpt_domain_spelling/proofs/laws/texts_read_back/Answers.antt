use Rattle.cpt_domain_spelling.proofs.TextLemmas as lemmas
use Rattle.cpt_domain_spelling.proofs.laws.texts_read_back.Goals as goal

pub returns : goal.returns
returns c = lemmas.text_back
