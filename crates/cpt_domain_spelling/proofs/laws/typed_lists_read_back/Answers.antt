use Rattle.cpt_domain_spelling.proofs.TypedLemmas as lemmas
use Rattle.cpt_domain_spelling.proofs.laws.typed_lists_read_back.Goals as goal

pub returns : goal.returns
returns c = lemmas.typed_back
