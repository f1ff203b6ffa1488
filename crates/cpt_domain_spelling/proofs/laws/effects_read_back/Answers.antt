use Rattle.cpt_domain_spelling.proofs.EffectLemmas as lemmas
use Rattle.cpt_domain_spelling.proofs.laws.effects_read_back.Goals as goal

pub returns : goal.returns
returns c = lemmas.effects_read
