use Rattle.cpt_fresh.proofs.FreshLemmas.{beginning_closes_fresh}
use Rattle.cpt_fresh.proofs.laws.beginning_closes_fresh.Goals as goal

pub returns : goal.returns
returns c = beginning_closes_fresh
