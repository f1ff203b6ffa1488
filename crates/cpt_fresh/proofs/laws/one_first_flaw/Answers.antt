use Rattle.cpt_fresh.proofs.FlawLemmas.{one_first_flaw}
use Rattle.cpt_fresh.proofs.laws.one_first_flaw.Goals as goal

pub returns : goal.returns
returns c = one_first_flaw
