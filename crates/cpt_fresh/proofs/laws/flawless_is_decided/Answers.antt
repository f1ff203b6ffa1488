use Rattle.cpt_fresh.proofs.FlawLemmas.{flawless_is_decided}
use Rattle.cpt_fresh.proofs.laws.flawless_is_decided.Goals as goal

pub returns : goal.returns
returns c = flawless_is_decided
