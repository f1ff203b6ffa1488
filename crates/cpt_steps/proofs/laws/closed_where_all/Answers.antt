use Rattle.cpt_steps.proofs.LandingLemmas.{closed_where_all}
use Rattle.cpt_steps.proofs.laws.closed_where_all.Goals as goal

pub returns : goal.returns
returns c = closed_where_all
