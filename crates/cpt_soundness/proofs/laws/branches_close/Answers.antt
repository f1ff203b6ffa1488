use Rattle.cpt_soundness.proofs.TreeLemmas as lemmas
use Rattle.cpt_soundness.proofs.laws.branches_close.Goals as goal

pub returns : goal.returns
returns c = lemmas.branches_close
