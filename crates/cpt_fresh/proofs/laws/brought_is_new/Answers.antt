use Rattle.cpt_fresh.proofs.ExtendLemmas.{brought_is_new}
use Rattle.cpt_fresh.proofs.laws.brought_is_new.Goals as goal

pub returns : goal.returns
returns c = brought_is_new
