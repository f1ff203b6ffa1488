use Rattle.cpt_fresh.proofs.ExtendLemmas.{live_extends}
use Rattle.cpt_fresh.proofs.laws.live_extends.Goals as goal

pub returns : goal.returns
returns c = live_extends
