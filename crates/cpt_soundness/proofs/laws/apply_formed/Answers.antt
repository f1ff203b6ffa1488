use Rattle.cpt_soundness.proofs.FormedLemmas as lemmas
use Rattle.cpt_soundness.proofs.laws.apply_formed.Goals as goal

pub returns : goal.returns
returns c = lemmas.applied_formed
