use Rattle.cpt_task.specs.Shape.{TaskShape}
use Rattle.cpt_tables.specs.declared.tables.Tables.{Tables}
use Rattle.cpt_sheet.specs.Live.{IsLive}
use Rattle.cpt_store.specs.Stores.{IsLent, StoreShape}

-- the store may be asked for a step: it is lent, and its sheet is not dead
pub record CanPropose (t : TaskShape) (b : Tables) (s : StoreShape) : Type 0 where
  pub lent : IsLent t b s
  pub live : IsLive s.sheet
