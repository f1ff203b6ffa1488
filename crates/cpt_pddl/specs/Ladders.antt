use Rattle.std.specs.Prelude.{◌≡◌, zero, suc, ℕ, ◌+◌, ◌/◌, ◌%◌, ◌==◌, if◌then◌else◌, List, [], ◌∷◌, slice_index}

-- the type that is so many steps above one
abbrev pub above : ℕ → List ℕ → ℕ → ℕ
above zero parents kind = kind
above (suc steps) parents kind = above steps parents (slice_index parents kind)

-- how many of so many steps up from a type come to another than type 0
abbrev pub height : ℕ → List ℕ → ℕ → ℕ
height zero parents kind = 0
height (suc steps) parents kind = if slice_index parents kind == 0 then 0 else suc (height steps parents (slice_index parents kind))

-- the type that is so many steps above one, by rows each of which goes twice as far as the one before
abbrev pub lifted : List (List ℕ) → ℕ → ℕ → ℕ
lifted [] steps kind = kind
lifted (row ∷ rows) steps kind = lifted rows (steps / 2) (if steps % 2 == 0 then kind else slice_index row kind)

-- a row has for each type the one that is so many steps above it
abbrev pub IsRow : List ℕ → ℕ → List ℕ → Type 0
IsRow parents steps row = (kind : ℕ) → slice_index row kind ≡ above steps parents kind

-- the first row goes so many steps up, and each other twice as far as the one before
abbrev pub AreRows : List ℕ → ℕ → List (List ℕ) → Type 0
AreRows parents steps [] = Unit {0}
AreRows parents steps (row ∷ rows) = IsRow parents steps row × AreRows parents (steps + steps) rows

-- the height of each type, in so many steps
abbrev pub AreHeights : List ℕ → ℕ → List ℕ → Type 0
AreHeights parents steps heights = (kind : ℕ) → slice_index heights kind ≡ height steps parents kind
