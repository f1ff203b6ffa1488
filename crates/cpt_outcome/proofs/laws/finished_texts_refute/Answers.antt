use Rattle.cpt_outcome.proofs.NodeLemmas.{finished-texts-refute}
use Rattle.cpt_outcome.proofs.laws.finished_texts_refute.Goals as goal

pub returns : goal.returns
returns c = finished-texts-refute
