use Rattle.std.specs.Prelude.{ℕ, List, [], slice_index_or}

-- the name with a number
abbrev pub named : List (List ℕ) → ℕ → List ℕ
named names number = slice_index_or names number []
