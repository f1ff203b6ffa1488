use Rattle.cpt_soundness.proofs.RootLemmas as lemmas
use Rattle.cpt_soundness.proofs.laws.root_admits.Goals as goal

pub returns : goal.returns
returns c = lemmas.root_admits
