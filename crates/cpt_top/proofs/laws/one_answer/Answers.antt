use Rattle.cpt_top.proofs.Once as lemmas
use Rattle.cpt_top.proofs.laws.one_answer.Goals as goal

pub returns : goal.returns
returns c = lemmas.one_answer
