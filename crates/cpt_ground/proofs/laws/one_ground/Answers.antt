use Rattle.cpt_ground.proofs.Determined as lemmas
use Rattle.cpt_ground.proofs.laws.one_ground.Goals as goal

pub returns : goal.returns
returns c = lemmas.one_ground
