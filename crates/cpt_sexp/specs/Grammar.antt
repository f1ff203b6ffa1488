use Rattle.std.specs.Prelude.{suc, ◌≡◌, ℕ, ◌<◌, ◌≤◌, ◌^◌, true, false, List, length, map, slice_index}
use Rattle.std.specs.Char.{to_ascii_lowercase}
use Rattle.cpt_sexp.specs.Bytes.{is_blank, is_letter, plain}
use Rattle.cpt_sexp.specs.Trees.{Trees, none, word, group}

-- the bytes from one place up to another are blanks
pub record IsGap (bytes : List ℕ) (from to : ℕ) : Type 0 where
  pub ordered : from ≤ to
  pub blanks : (k : ℕ) → from ≤ k → k < to → is_blank (slice_index bytes k) ≡ true

-- the bytes from one place up to another are of a word, and the word goes no further
pub record IsWord (bytes : List ℕ) (from to : ℕ) : Type 0 where
  pub ordered : from < to
  pub letters : (k : ℕ) → from ≤ k → k < to → is_letter (slice_index bytes k) ≡ true
  pub longest : is_letter (slice_index bytes to) ≡ false

-- The bytes from one place up to another spell these trees, inside so many groups: blanks at the end; or
-- blanks, a word and the rest; or blanks, a group in its parentheses and the rest. At most 64 groups are
-- inside one another.
abbrev pub Spells : List ℕ → (depth from to : ℕ) → Trees → Type 0
Spells bytes depth from to none = IsGap bytes from to
Spells bytes depth from to (word a b rest) =
    IsGap bytes from a × IsWord bytes a b × Spells bytes depth b to rest
Spells bytes depth from to (group a b inside rest) =
    IsGap bytes from a × (depth < 64) × (slice_index bytes a ≡ 40)
    × ((close : ℕ) × (suc close ≡ b) × (slice_index bytes close ≡ 41) × Spells bytes (suc depth) (suc a) close inside)
    × Spells bytes depth b to rest

-- the whole text spells these trees
abbrev pub SpellsText : List ℕ → Trees → Type 0
SpellsText text trees = Spells (plain text) 0 0 (length text) trees

-- what a parsed text is: its trees, and its bytes with the letters in lower case
pub record ForestShape : Type 0 where
  pub trees : Trees
  pub text : List ℕ

-- a text in lower case and its trees
pub record IsForest (forest : ForestShape) : Type 0 where
  pub spelled : SpellsText forest.text forest.trees
  pub lower : map to_ascii_lowercase forest.text ≡ forest.text
  pub small : length forest.text ≤ 2 ^ 24
