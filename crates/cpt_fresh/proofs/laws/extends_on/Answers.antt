use Rattle.cpt_fresh.proofs.ExtendLemmas.{extends_on}
use Rattle.cpt_fresh.proofs.laws.extends_on.Goals as goal

pub returns : goal.returns
returns c = extends_on
