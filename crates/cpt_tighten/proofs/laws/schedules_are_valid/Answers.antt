use Rattle.cpt_tighten.proofs.Turning as lemmas
use Rattle.cpt_tighten.proofs.laws.schedules_are_valid.Goals as goal

pub returns : goal.returns
returns c = lemmas.schedules_are_valid
