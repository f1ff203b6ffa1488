use Rattle.cpt_soundness.proofs.PlanLemmas as lemmas
use Rattle.cpt_soundness.proofs.laws.deleters_keep_away.Goals as goal

pub returns : goal.returns
returns c = lemmas.deleters_keep_away
