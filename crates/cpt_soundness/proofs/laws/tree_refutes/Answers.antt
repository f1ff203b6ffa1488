use Rattle.cpt_soundness.proofs.TreeLemmas as lemmas
use Rattle.cpt_soundness.proofs.laws.tree_refutes.Goals as goal

pub returns : goal.returns
returns c = lemmas.tree_refutes
