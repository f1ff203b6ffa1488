use Rattle.cpt_search.proofs.EngineLemmas.{reached-run}
use Rattle.cpt_search.proofs.solving.EngineSearchSpace.steps.Goals as goal

pub returns : goal.returns
returns g c = reached-run _ _ _ _ _ _ _ _ c.steps.ensures
