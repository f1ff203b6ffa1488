use Rattle.std.specs.Prelude.{ℕ, ◌+◌, ◌==◌, not, min, ◌&&◌, ◌||◌, if◌then◌else◌, List, [], ◌∷◌, take, drop, Option, None, Some}
use Rattle.std.specs.Char.{is_ascii_digit}
use Rattle.std.specs.Str.{bytes_eq}
use Rattle.std.specs.Str.Parse.{digits_value}

-- how many digits stand at the front
abbrev pub digit_count : List ℕ → ℕ
digit_count [] = 0
digit_count (b ∷ bs) = if is_ascii_digit b then digit_count bs + 1 else 0

-- a number without a leading zero at the front, stopped at 1,000,000,001, and what follows it
unfoldable pub number_in : List ℕ → Option (ℕ × List ℕ)
number_in bytes =
    let count = digit_count bytes in
    if (count == 0) || (not (count == 1) && bytes_eq (take 1 bytes) (48 ∷ [])) then None
    else Some (min (digits_value 10 (take count bytes)) 1000000001, drop count bytes)
