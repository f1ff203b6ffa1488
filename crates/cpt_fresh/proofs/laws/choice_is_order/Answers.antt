use Rattle.cpt_fresh.proofs.FlawLemmas.{choice_is_order}
use Rattle.cpt_fresh.proofs.laws.choice_is_order.Goals as goal

pub returns : goal.returns
returns c = choice_is_order
