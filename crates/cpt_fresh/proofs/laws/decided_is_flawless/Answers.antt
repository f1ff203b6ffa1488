use Rattle.cpt_fresh.proofs.FlawLemmas.{decided_is_flawless}
use Rattle.cpt_fresh.proofs.laws.decided_is_flawless.Goals as goal

pub returns : goal.returns
returns c = decided_is_flawless
