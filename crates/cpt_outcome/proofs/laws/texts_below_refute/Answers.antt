use Rattle.cpt_outcome.proofs.NodeLemmas.{texts-below-refute}
use Rattle.cpt_outcome.proofs.laws.texts_below_refute.Goals as goal

pub returns : goal.returns
returns c = texts-below-refute
