use Rattle.std.specs.Prelude.{◌≡◌, ℕ, ◌<◌, ◌==◌, if◌then◌else◌, List, [], ◌∷◌, ◌++◌, length}

-- bytes put before the first line, or before what follows the last line where there is none
abbrev pub glue : List ℕ → List (List ℕ) × List ℕ → List (List ℕ) × List ℕ
glue front ([], rest) = ([], front ++ rest)
glue front (line ∷ lines, rest) = ((front ++ line) ∷ lines, rest)

-- the lines that end in the text, and what follows the last line feed
abbrev pub split : List ℕ → List (List ℕ) × List ℕ
split [] = ([], [])
split (b ∷ bs) = if b == 10 then ([] ∷ (split bs).0, (split bs).1) else glue (b ∷ []) (split bs)

-- the text begins with this line, and goes on with the rest
pub record EndsLine (text line rest : List ℕ) : Type 0 where
  pub first : split text ≡ (line ∷ (split rest).0, (split rest).1)
  pub shorter : length rest < length text
