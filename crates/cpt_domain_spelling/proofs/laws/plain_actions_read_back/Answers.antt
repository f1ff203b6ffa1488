use Rattle.cpt_domain_spelling.proofs.SchemaLemmas as lemmas
use Rattle.cpt_domain_spelling.proofs.laws.plain_actions_read_back.Goals as goal

pub returns : goal.returns
returns c = lemmas.plain_schema_back
