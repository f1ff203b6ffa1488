use Rattle.cpt_soundness.proofs.RootFormedLemmas as lemmas
use Rattle.cpt_soundness.proofs.laws.root_formed.Goals as goal

pub returns : goal.returns
returns c = lemmas.root_formed
