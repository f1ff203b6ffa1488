use Rattle.std.specs.Prelude.{◌≡◌, ℕ, ◌<◌, true, min, All, List, [], ◌∷◌, ◌++◌, length, map, codes, Option, None, Some, ⊤}
use Rattle.std.specs.Char.{IsAsciiDigit}
use Rattle.std.specs.List.{flat_map}
use Rattle.std.specs.Str.Parse.{digits_value}
use Rattle.cpt_line.specs.Names.{word_byte}
use Rattle.cpt_plan_text.specs.declared.line.Entry.{Entry}
use Rattle.cpt_plan_text.specs.Grammar.{is_blank, lower}

-- spaces, tabs and carriage returns alone, or nothing
abbrev pub AreBlanks : List ℕ → Type 0
AreBlanks bytes = All (λ b. is_blank b ≡ true) bytes

-- a semicolon and anything behind it, or nothing
abbrev pub IsComment : List ℕ → Type 0
IsComment [] = ⊤
IsComment (b ∷ said) = b ≡ 59

-- a point and zeros, at least one, or nothing
abbrev pub IsFraction : List ℕ → Type 0
IsFraction [] = ⊤
IsFraction (b ∷ zeros) = (b ≡ 46) × (0 < length zeros) × All (λ z. z ≡ 48) zeros

-- a number as it is written: digits, at least one, and perhaps a fraction of zeros; above 4,294,967,295 it counts as 4,294,967,296
pub record SpellsNumber (text : List ℕ) (value : ℕ) : Type 0 where
  pub digits : List ℕ
  pub fraction : List ℕ
  pub whole : text ≡ digits ++ fraction
  pub some : 0 < length digits
  pub are_digits : All IsAsciiDigit digits
  pub is_fraction : IsFraction fraction
  pub counts : value ≡ min (digits_value 10 digits) 4294967296

-- a byte that may stand in a word, in upper or lower case
abbrev pub IsWordByte : ℕ → Type 0
IsWordByte b = word_byte (lower b) ≡ true

-- at least one byte, and only such as may stand in a word
abbrev pub IsWord : List ℕ → Type 0
IsWord bytes = (0 < length bytes) × All IsWordByte bytes

-- a word of a name behind the first, and the gap before it
pub record NextWord : Type 0 where
  pub gap : List ℕ
  pub bytes : List ℕ

-- a word behind a gap of blanks, at least one
abbrev pub IsNextWord : NextWord → Type 0
IsNextWord w = (0 < length w.gap) × AreBlanks w.gap × IsWord w.bytes

-- the words behind the first as they are written
abbrev pub words_written : List NextWord → List ℕ
words_written others = flat_map (λ w. w.gap ++ w.bytes) others

-- the words behind the first in lower case, with one space before each
abbrev pub words_spelled : List NextWord → List ℕ
words_spelled others = flat_map (λ w. codes " " ++ map lower w.bytes) others

-- A name as it is written: words in parentheses, with blanks between two and perhaps before the first and
-- behind the last. Its one spelling has them in lower case, with one space between two and none elsewhere.
pub record SpellsName (text name : List ℕ) : Type 0 where
  pub front : List ℕ
  pub first : List ℕ
  pub others : List NextWord
  pub back : List ℕ
  pub whole : text ≡ codes "(" ++ front ++ first ++ words_written others ++ back ++ codes ")"
  pub front_blank : AreBlanks front
  pub first_word : IsWord first
  pub other_words : All IsNextWord others
  pub back_blank : AreBlanks back
  pub spells : name ≡ codes "(" ++ map lower first ++ words_spelled others ++ codes ")"

-- a number in square brackets, perhaps with blanks before and behind it
pub record SpellsBracketed (text : List ℕ) (value : ℕ) : Type 0 where
  pub front : List ℕ
  pub number : List ℕ
  pub back : List ℕ
  pub whole : text ≡ codes "[" ++ front ++ number ++ back ++ codes "]"
  pub front_blank : AreBlanks front
  pub is_number : SpellsNumber number value
  pub back_blank : AreBlanks back

-- a duration as it is written: a number in square brackets, or nothing
abbrev pub SpellsDuration : List ℕ → Option ℕ → Type 0
SpellsDuration text None = text ≡ []
SpellsDuration text (Some value) = SpellsBracketed text value

-- The line of an entry, `START: (NAME) [DURATION] ;COMMENT`, of which the last two may be absent. Blanks may
-- stand at its front and behind each part.
pub record SpellsEntry (line : List ℕ) (entry : Entry) : Type 0 where
  pub front : List ℕ
  pub start : List ℕ
  pub behind_start : List ℕ
  pub behind_colon : List ℕ
  pub name : List ℕ
  pub behind_name : List ℕ
  pub duration : List ℕ
  pub behind_duration : List ℕ
  pub comment : List ℕ
  pub whole : line ≡ front ++ start ++ behind_start ++ codes ":" ++ behind_colon ++ name ++ behind_name ++ duration ++ behind_duration ++ comment
  pub front_blank : AreBlanks front
  pub is_start : SpellsNumber start entry.start
  pub behind_start_blank : AreBlanks behind_start
  pub behind_colon_blank : AreBlanks behind_colon
  pub is_name : SpellsName name entry.name
  pub behind_name_blank : AreBlanks behind_name
  pub is_duration : SpellsDuration duration entry.dur
  pub behind_duration_blank : AreBlanks behind_duration
  pub is_comment : IsComment comment

-- the line of no entry: blanks, and perhaps a comment
pub record IsSilent (line : List ℕ) : Type 0 where
  pub front : List ℕ
  pub comment : List ℕ
  pub whole : line ≡ front ++ comment
  pub front_blank : AreBlanks front
  pub is_comment : IsComment comment
