use Rattle.cpt_ground.proofs.Unique as lemmas
use Rattle.cpt_ground.proofs.laws.one_reading.Goals as goal

pub returns : goal.returns
returns c = lemmas.one_reading
