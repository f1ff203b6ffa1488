use Rattle.cpt_every_ruling.proofs.Ruling as lemmas
use Rattle.cpt_every_ruling.proofs.laws.each_text_has_a_ruling.Goals as goal

pub returns : goal.returns
returns c = lemmas.each_text_has_a_ruling
