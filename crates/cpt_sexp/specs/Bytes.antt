use Rattle.std.specs.Prelude.{ℕ, ◌==◌, nat_le, Bool, true, false, not, ◌&&◌, ◌||◌, if◌then◌else◌, List, [], ◌∷◌}

-- a space, a tab, a carriage return or a line feed
abbrev pub is_blank : ℕ → Bool
is_blank b = (b == 32) || (b == 9) || (b == 13) || (b == 10)

-- a byte that may stand outside comments and is no blank
abbrev pub is_graphic : ℕ → Bool
is_graphic b = nat_le 33 b && nat_le b 126

-- a byte of a word: no blank, no parenthesis and no semicolon
abbrev pub is_letter : ℕ → Bool
is_letter b = is_graphic b && not (b == 40) && not (b == 41) && not (b == 59)

-- the bytes with each byte of a comment made a space; whether a comment goes on at the front
abbrev pub plain_from : Bool → List ℕ → List ℕ
plain_from commented [] = []
plain_from true (b ∷ bs) = if b == 10 then b ∷ plain_from false bs else 32 ∷ plain_from true bs
plain_from false (b ∷ bs) = if b == 59 then 32 ∷ plain_from true bs else b ∷ plain_from false bs

-- a text with its comments made blank: each goes from a semicolon to the end of the line
abbrev pub plain : List ℕ → List ℕ
plain text = plain_from false text
