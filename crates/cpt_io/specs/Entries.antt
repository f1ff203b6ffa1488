use Rattle.std.specs.Prelude.{ℕ, ◌+◌, ◌-◌, ◌^◌, min, if◌then◌else◌, zero, suc, List, [], ◌∷◌, length, Option, None, Some, Vec}
use Rattle.std.specs.Global.{Global}
use Rattle.std.specs.Str.{bytes_eq}

-- a name and the bytes of its file
abbrev pub Entry : Type 0
Entry = List ℕ × Vec ℕ Global

-- the bytes of the first file of that name
abbrev pub held : List Entry → List ℕ → Option (List ℕ)
held [] name = None
held (f ∷ fs) name = if bytes_eq f.0 name then Some f.1.items else held fs name

-- the bytes of the file at a place, none past the end
abbrev pub bytes_at : List Entry → ℕ → List ℕ
bytes_at [] place = []
bytes_at (f ∷ fs) zero = f.1.items
bytes_at (f ∷ fs) (suc place) = bytes_at fs place

-- the count of calls after one more, which stands still at the last number of 64 bits
abbrev pub next_call : ℕ → ℕ
next_call calls = min (calls + 1) (2 ^ 64 - 1)

-- how many bytes a pull gives: those that are left, as far as the piece has room and one pull may give
abbrev pub pull_count : ℕ → ℕ → List ℕ → ℕ
pull_count room most left = min (min room most) (length left)
