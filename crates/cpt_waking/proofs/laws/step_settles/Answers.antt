use Rattle.cpt_waking.proofs.SettleLemmas.{step_settles}
use Rattle.cpt_waking.proofs.laws.step_settles.Goals as goal

pub returns : goal.returns
returns c = step_settles
