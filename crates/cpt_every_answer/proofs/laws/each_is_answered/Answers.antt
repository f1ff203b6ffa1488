use Rattle.cpt_every_answer.proofs.Answering as lemmas
use Rattle.cpt_every_answer.proofs.laws.each_is_answered.Goals as goal

pub returns : goal.returns
returns c = lemmas.each_is_answered
