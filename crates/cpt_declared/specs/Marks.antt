use Rattle.std.specs.Prelude.{◌≡◌, ℕ, Bool, false, List, slice_index_or}
use Rattle.cpt_declared.specs.Kinds.{has}

-- the marks tell which types were entered
abbrev pub AreMarks : List ℕ → List Bool → Type 0
AreMarks entered marks = (kind : ℕ) → slice_index_or marks kind false ≡ has entered kind
