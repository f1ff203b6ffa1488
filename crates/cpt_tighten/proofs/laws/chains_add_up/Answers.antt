use Rattle.cpt_tighten.proofs.Summing as lemmas
use Rattle.cpt_tighten.proofs.laws.chains_add_up.Goals as goal

pub returns : goal.returns
returns c = lemmas.chains_add_up
