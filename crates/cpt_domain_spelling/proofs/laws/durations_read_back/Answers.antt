use Rattle.cpt_domain_spelling.proofs.DurationLemmas as lemmas
use Rattle.cpt_domain_spelling.proofs.laws.durations_read_back.Goals as goal

pub returns : goal.returns
returns c = lemmas.duration_back
