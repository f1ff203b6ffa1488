use Rattle.cpt_fresh.proofs.FlawLemmas.{each_step_in_use}
use Rattle.cpt_fresh.proofs.laws.each_step_in_use.Goals as goal

pub returns : goal.returns
returns c = each_step_in_use
