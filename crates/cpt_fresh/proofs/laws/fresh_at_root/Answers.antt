use Rattle.cpt_fresh.proofs.FreshLemmas.{fresh_at_root}
use Rattle.cpt_fresh.proofs.laws.fresh_at_root.Goals as goal

pub returns : goal.returns
returns c = fresh_at_root
