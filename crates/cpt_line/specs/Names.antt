use Rattle.std.specs.Prelude.{◌≡◌, ◌≢◌, ℕ, ◌<◌, ◌==◌, nat_le, Bool, true, false, not, ◌&&◌, if◌then◌else◌, List, [], ◌∷◌, length, All, slice_index_or}

-- a byte of a word: printable, no upper-case letter, no parenthesis and no semicolon
abbrev pub word_byte : ℕ → Bool
word_byte b = nat_le 33 b && nat_le b 126 && not (nat_le 65 b && nat_le b 90) && not (b == 40) && not (b == 41) && not (b == 59)

-- words with one space between two, and a closing parenthesis at the end; whether a word has begun
abbrev pub name_after : Bool → List ℕ → Bool
name_after in_word [] = false
name_after in_word (b ∷ bs) =
    if b == 41 then in_word && (length bs == 0)
    else if b == 32 then in_word && name_after false bs
    else word_byte b && name_after true bs

-- words in parentheses, at least one, with one space between two
abbrev pub is_name : List ℕ → Bool
is_name [] = false
is_name (b ∷ bs) = (b == 40) && name_after false bs

-- legal names, no two of them the same
pub record AreNames (names : List (List ℕ)) : Type 0 where
  pub legal : All (λ name. is_name name ≡ true) names
  pub distinct : (i j : ℕ) → i < j → j < length names → slice_index_or names i [] ≢ slice_index_or names j []
