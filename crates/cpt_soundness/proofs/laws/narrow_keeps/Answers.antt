use Rattle.cpt_soundness.proofs.NarrowLemmas as lemmas
use Rattle.cpt_soundness.proofs.laws.narrow_keeps.Goals as goal

pub returns : goal.returns
returns c = lemmas.narrow_keeps
