use Rattle.std.specs.Prelude.{suc, ℕ, ◌≢◌, ◌<◌, ◌≤◌, List, [], ◌∷◌, ◌++◌, length, All}
use Rattle.std.specs.List.{slice_range}
use Rattle.cpt_sexp.specs.Trees.{Trees, none, word, group}

-- words by their bytes, and groups, wherever they stand
pub data Nest : Type 0 where
  nothing : Nest
  name : (bytes : List ℕ) → Nest → Nest
  list : (inside : Nest) → Nest → Nest

-- what trees of a text say
abbrev pub nest_of : List ℕ → Trees → Nest
nest_of text none = nothing
nest_of text (word from to rest) = name (slice_range text from to) (nest_of text rest)
nest_of text (group from to inside rest) = list (nest_of text inside) (nest_of text rest)

-- words and groups written down, with a space after each
abbrev pub printed : Nest → List ℕ
printed nothing = []
printed (name bytes rest) = bytes ++ 32 ∷ printed rest
printed (list inside rest) = 40 ∷ (printed inside ++ 41 ∷ (32 ∷ printed rest))

-- a printable byte, neither a space nor a parenthesis nor a semicolon
pub record IsNameByte (b : ℕ) : Type 0 where
  pub low : 33 ≤ b
  pub high : b ≤ 126
  pub no_open : b ≢ 40
  pub no_close : b ≢ 41
  pub no_mark : b ≢ 59

-- inside so many groups, the words have bytes, all of them name bytes, and at most 64 groups are inside one another
abbrev pub IsPrintable : ℕ → Nest → Type 0
IsPrintable depth nothing = Unit {0}
IsPrintable depth (name bytes rest) = (0 < length bytes) × All IsNameByte bytes × IsPrintable depth rest
IsPrintable depth (list inside rest) = (depth < 64) × IsPrintable (suc depth) inside × IsPrintable depth rest
