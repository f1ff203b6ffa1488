use Rattle.cpt_fresh.proofs.FlawLemmas.{no_flaw_no_first}
use Rattle.cpt_fresh.proofs.laws.no_flaw_no_first.Goals as goal

pub returns : goal.returns
returns c = no_flaw_no_first
