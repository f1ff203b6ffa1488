use Rattle.cpt_fresh.proofs.ExtendLemmas.{extends_itself}
use Rattle.cpt_fresh.proofs.laws.extends_itself.Goals as goal

pub returns : goal.returns
returns c = extends_itself
