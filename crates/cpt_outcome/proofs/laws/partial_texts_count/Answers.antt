use Rattle.cpt_outcome.proofs.PartialLemmas.{partial-texts-count}
use Rattle.cpt_outcome.proofs.laws.partial_texts_count.Goals as goal

pub returns : goal.returns
returns c = partial-texts-count
