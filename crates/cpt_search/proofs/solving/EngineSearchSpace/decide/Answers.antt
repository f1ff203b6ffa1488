use Rattle.cpt_search.proofs.EngineLemmas.{can-decide}
use Rattle.cpt_search.proofs.solving.EngineSearchSpace.decide.Goals as goal

pub decide-requires-clause-alive : goal.decide-requires-clause-alive
decide-requires-clause-alive g c = (can-decide _ _ _ _ _ _ _ _ _ c.state.ensures.stands.reached c.requires.short c.requires.fits).alive

pub decide-requires-clause-fits : goal.decide-requires-clause-fits
decide-requires-clause-fits g c = (can-decide _ _ _ _ _ _ _ _ _ c.state.ensures.stands.reached c.requires.short c.requires.fits).fits

pub decide-requires-clause-few : goal.decide-requires-clause-few
decide-requires-clause-few g c = (can-decide _ _ _ _ _ _ _ _ _ c.state.ensures.stands.reached c.requires.short c.requires.fits).few
