use Rattle.cpt_calculus.proofs.Keeps as lemmas
use Rattle.cpt_soundness.proofs.laws.narrow_formed.Goals as goal

pub returns : goal.returns
returns c = lemmas.step_formed
