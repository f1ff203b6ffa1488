use Rattle.cpt_tighten.proofs.Only as lemmas
use Rattle.cpt_tighten.proofs.laws.one_chain.Goals as goal

pub returns : goal.returns
returns c = lemmas.one_chain
