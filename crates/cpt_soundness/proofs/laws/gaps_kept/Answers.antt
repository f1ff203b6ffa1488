use Rattle.cpt_soundness.proofs.PlanLemmas as lemmas
use Rattle.cpt_soundness.proofs.laws.gaps_kept.Goals as goal

pub returns : goal.returns
returns c = lemmas.gaps_kept
