use Rattle.std.specs.Prelude.{zero, suc, ℕ, ◌==◌, Bool, true, false, ◌&&◌, if◌then◌else◌, List, length, slice_index}
use Rattle.std.specs.List.{list_all}

-- in so many steps from a type up to its parents comes the wanted one; type 0 has none above it
abbrev pub climbs : ℕ → List ℕ → ℕ → ℕ → Bool
climbs zero parents kind wanted = kind == wanted
climbs (suc steps) parents kind wanted =
    if kind == wanted then true
    else if kind == 0 then false
    else climbs steps parents (slice_index parents kind) wanted

-- the type is the wanted one or below it
unfoldable pub is_below : List ℕ → ℕ → ℕ → Bool
is_below parents kind wanted = climbs (length parents) parents kind wanted

-- object is its own parent, and above each type
unfoldable pub is_rooted : List ℕ → Bool
is_rooted parents = (slice_index parents 0 == 0) && list_all (λ parent. is_below parents parent 0) parents
