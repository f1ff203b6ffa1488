use Rattle.std.specs.Prelude.{◌≡◌, ℕ, List}
use Rattle.cpt_sheet.specs.declared.data.Cand.{Cand}
use Rattle.cpt_sheet.specs.View.{has, has_order}
use Rattle.cpt_sheet.specs.Formed.{IsAscending, IsIncreasing}

-- a candidate list, tokens ascending and then outside actions ascending, is known by who stands in it
abbrev pub ListsByMembers : Type 0
ListsByMembers = (xs ys : List Cand) → IsAscending xs → IsAscending ys → ((c : Cand) → has c xs ≡ has c ys) → xs ≡ ys

-- an increasing list of orders is known by which orders stand in it
abbrev pub OrdersByMembers : Type 0
OrdersByMembers = (os ps : List (ℕ × ℕ)) → IsIncreasing os → IsIncreasing ps → ((x y : ℕ) → has_order x y os ≡ has_order x y ps) → os ≡ ps
