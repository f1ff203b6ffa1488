use Rattle.cpt_every_text.proofs.EachText as lemmas
use Rattle.cpt_every_text.proofs.laws.each_text_is_ruled.Goals as goal

pub returns : goal.returns
returns c = lemmas.each_text_is_ruled
