use Rattle.cpt_domain_spelling.proofs.KindReading as lemmas
use Rattle.cpt_domain_spelling.proofs.laws.read_types_are_arranged.Goals as goal

pub returns : goal.returns
returns c = lemmas.kinds_arranged
