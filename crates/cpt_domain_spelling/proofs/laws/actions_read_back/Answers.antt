use Rattle.cpt_domain_spelling.proofs.SchemaLemmas as lemmas
use Rattle.cpt_domain_spelling.proofs.laws.actions_read_back.Goals as goal

pub returns : goal.returns
returns c = lemmas.schema_back
