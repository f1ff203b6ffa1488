use Rattle.cpt_soundness.proofs.CoverLemmas as lemmas
use Rattle.cpt_soundness.proofs.laws.children_cover.Goals as goal

pub returns : goal.returns
returns c = lemmas.children_cover
