use Rattle.cpt_steps.proofs.TightLemmas.{live_arrivals_fit}
use Rattle.cpt_steps.proofs.laws.arrivals_fit.Goals as goal

pub returns : goal.returns
returns c = live_arrivals_fit
