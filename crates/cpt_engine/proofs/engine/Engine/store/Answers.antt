use Rattle.std.proofs.Common.{subst}
use Rattle.cpt_store.specs.Stores.{IsLent}
use Rattle.cpt_engine.specs.Engines.{EngineShape}
use Rattle.cpt_engine.proofs.engine.Engine.store.Goals as goal

pub returns-clause-lent : goal.returns-clause-lent
returns-clause-lent g c =
    subst (λ (e : EngineShape). IsLent e.task e.tables c.self.inside.store) c.self.view_is
    (record { task = c.self.invariant.task; fits = c.self.invariant.stands.fits; formed = c.self.invariant.stands.reached.formed })
