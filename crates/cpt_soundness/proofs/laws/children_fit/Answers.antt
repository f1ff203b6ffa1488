use Rattle.cpt_soundness.proofs.FitLemmas as lemmas
use Rattle.cpt_soundness.proofs.laws.children_fit.Goals as goal

pub returns : goal.returns
returns c = lemmas.children_fit
