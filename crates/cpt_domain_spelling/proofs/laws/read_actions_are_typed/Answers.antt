use Rattle.cpt_domain_spelling.proofs.SchemaTyping as lemmas
use Rattle.cpt_domain_spelling.proofs.laws.read_actions_are_typed.Goals as goal

pub returns : goal.returns
returns c = lemmas.schema_typed
