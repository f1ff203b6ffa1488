use Rattle.std.proofs.Common.{◌≡◌, ℕ, ◌+◌, ◌*◌, ◌<◌, min, true, List, ◌∷◌, length, get_or, take, drop, refl, ap, ◌∙◌, arith, add-one, drop-cons}
use Rattle.std.specs.Char.{is_ascii_digit, digit_value}
use Rattle.std.specs.Str.Parse.{digits_value}
use Rattle.std.proofs.lemmas.Int.Digits.{digits_value_more}
use Rattle.cpt_line.specs.Digits.{digit_count}

counted : (b : ℕ) (bs : List ℕ) → is_ascii_digit b ≡ true → digit_count (b ∷ bs) ≡ digit_count bs + 1
counted b bs h = rw h refl

-- one more digit
pub digit_more : (bytes : List ℕ) (i : ℕ) → i < length bytes → is_ascii_digit (get_or bytes i 0) ≡ true → i + digit_count (drop i bytes) ≡ digit_count bytes → i + 1 + digit_count (drop (i + 1) bytes) ≡ digit_count bytes
digit_more bytes i lt h before =
    let e : drop i bytes ≡ get_or bytes i 0 ∷ drop (i + 1) bytes = rw (drop-cons bytes i 0, add-one) refl in
    let k : digit_count (drop i bytes) ≡ digit_count (drop (i + 1) bytes) + 1 = ap digit_count e ∙ counted (get_or bytes i 0) (drop (i + 1) bytes) h in
    omega (arith, k, before)

capped_step : (most value n d : ℕ) → n ≡ min value most → min (n * 10 + d) most ≡ min (value * 10 + d) most
capped_step most value n d h = grind arith

-- one more digit of a number that stops at the most
pub number_more : (most : ℕ) (digits : List ℕ) (i n d : ℕ) → i < length digits → d ≡ digit_value (get_or digits i 0) → n ≡ min (digits_value 10 (take i digits)) most →
    min (n * 10 + d) most ≡ min (digits_value 10 (take (i + 1) digits)) most
number_more most digits i n d lt same h =
    rw (digits_value_more 10 digits i lt, ← same) (capped_step most (digits_value 10 (take i digits)) n d h)
