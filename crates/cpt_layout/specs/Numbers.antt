use Rattle.std.specs.Prelude.{ℕ, zero, suc, ◌+◌, ◌*◌, List, [], length, slice_index_or, nat_lt, if◌then◌else◌}
use Rattle.cpt_sheet.specs.declared.data.Cand.TheVariants.{Tok, Out}
use Rattle.cpt_layout.specs.Places.{place_in, Place, out_lo, out_hi, tok_lo, tok_hi, order, member, Frame, needs_at, atom_at, adders_at}

-- how many needs the first n tokens have
abbrev pub needs_before : Frame → ℕ → ℕ
needs_before s zero = 0
needs_before s (suc n) = needs_before s n + length (needs_at s n)

-- how many cells the first n own needs of token x take: two, one for each older token, and one for each adder
abbrev pub own_cells : List (List ℕ) → ℕ → List ℕ → ℕ → ℕ
own_cells adders x needs zero = 0
own_cells adders x needs (suc n) = own_cells adders x needs n + (2 + x + length (slice_index_or adders (slice_index_or needs n 0) []))

-- how many cells of a token lie before those of its n-th precondition
abbrev pub cells_before : Frame → ℕ → ℕ → ℕ
cells_before s x n = own_cells s.adders x (needs_at s x) n

-- how many cells a token takes: its interval, two for each older token, one for each older need, and its own needs
abbrev pub size_of : Frame → ℕ → ℕ
size_of s x = 2 + 2 * x + needs_before s x + cells_before s x (length (needs_at s x))

-- where the cells of a token begin: behind the intervals of the outside actions and the number of tokens
abbrev pub base : Frame → ℕ → ℕ
base s zero = 2 * length s.pre + 1
base s (suc x) = base s x + size_of s x

-- where the cells of a need begin
abbrev pub head : Frame → ℕ → ℕ → ℕ
head s x j = base s x + (2 + 2 * x + needs_before s x + cells_before s x j)

-- the cell of a place
abbrev pub cell_of : Frame → Place → ℕ
cell_of s (out_lo a) = 2 * a
cell_of s (out_hi a) = 2 * a + 1
cell_of s (tok_lo x) = base s x
cell_of s (tok_hi x) = base s x + 1
cell_of s (order x y) = if nat_lt x y then base s y + (2 + 2 * x) else base s x + (3 + 2 * y)
cell_of s (member x j (Tok y)) = if nat_lt y x then head s x j + (2 + y) else base s y + (2 + 2 * y + (needs_before s x + j))
cell_of s (member x j (Out a)) = head s x j + (2 + x + place_in a (adders_at s (atom_at s x j)))

-- how many cells all tokens and outside actions take
abbrev pub cells_in : Frame → ℕ
cells_in s = base s (length s.kinds)
