use Rattle.cpt_soundness.proofs.DeadLemmas as lemmas
use Rattle.cpt_soundness.proofs.laws.dead_admits_none.Goals as goal

pub returns : goal.returns
returns c = lemmas.dead_admits_none
