use Rattle.cpt_outcome.proofs.ReachLemmas.{exhausted-refuted}
use Rattle.cpt_outcome.proofs.laws.exhausted_trees_refute.Goals as goal

pub returns : goal.returns
returns c = exhausted-refuted
