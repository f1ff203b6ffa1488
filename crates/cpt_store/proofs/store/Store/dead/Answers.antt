use Rattle.std.proofs.Common.{MatchBool, subst}
use Rattle.cpt_sheet.specs.Live.{IsLive, IsDead}
use Rattle.cpt_store.specs.Stores.{StoreShape}
use Rattle.cpt_store.proofs.store.Store.dead.Goals as goal

pub returns : goal.returns
returns c = subst (λ (z : StoreShape). MatchBool c.dead.result (IsDead z.sheet) (IsLive z.sheet)) c.self.view_is c.dead.ensures
