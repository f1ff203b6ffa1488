use Rattle.std.specs.Prelude.{◌≡◌, ℕ, List, [], ◌∷◌, ◌++◌}
use Rattle.cpt_sheet.specs.declared.data.Sheet.{Sheet}
use Rattle.cpt_store.specs.Stores.{Mark}

-- one mark was set on top of the old ones, when the sheet was this one
pub record IsMarked (s : Sheet) (old new : List Mark) : Type 0 where
  pub written : ℕ
  pub marks : new ≡ old ++ record { sheet = s; written = written } ∷ []
