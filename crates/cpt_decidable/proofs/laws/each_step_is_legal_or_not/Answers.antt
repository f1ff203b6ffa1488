use Rattle.cpt_decidable.proofs.Steps as lemmas
use Rattle.cpt_decidable.proofs.laws.each_step_is_legal_or_not.Goals as goal

pub returns : goal.returns
returns c = lemmas.is_legal
