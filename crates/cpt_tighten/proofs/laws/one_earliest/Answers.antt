use Rattle.cpt_tighten.proofs.Only as lemmas
use Rattle.cpt_tighten.proofs.laws.one_earliest.Goals as goal

pub returns : goal.returns
returns c = lemmas.one_earliest
