use Rattle.std.specs.Prelude.{ℕ, ◌+◌, ◌==◌, nat_le, Bool, true, false, ◌&&◌, ◌||◌, if◌then◌else◌, min, List, [], ◌∷◌, ◌++◌, take, drop, Option, None, Some, option_map}
use Rattle.std.specs.Str.Parse.{digits_value}
use Rattle.cpt_line.specs.Digits.{digit_count}
use Rattle.cpt_line.specs.Names.{word_byte}
use Rattle.cpt_plan_text.specs.declared.line.Entry.{Entry}

infixl 10 ◌>>=◌
-- one reading after another, up to the first that fails
abbrev pub ◌>>=◌ : {A B : Type 0} → Option A → (A → Option B) → Option B
None >>= f = None
(Some x) >>= f = f x

-- a space, a tab or a carriage return
abbrev pub is_blank : ℕ → Bool
is_blank b = (b == 32) || (b == 9) || (b == 13)

-- what follows the blanks at the front
abbrev pub skip_blanks : List ℕ → List ℕ
skip_blanks [] = []
skip_blanks (b ∷ bs) = if is_blank b then skip_blanks bs else b ∷ bs

-- no more bytes, or a comment
abbrev pub is_end : List ℕ → Bool
is_end [] = true
is_end (b ∷ bs) = b == 59

-- what follows the byte, where it is the first
abbrev pub after_first : ℕ → List ℕ → Option (List ℕ)
after_first mark [] = None
after_first mark (b ∷ bs) = if b == mark then Some bs else None

-- what follows the byte, where only blanks stand before it
unfoldable pub after_byte : ℕ → List ℕ → Option (List ℕ)
after_byte mark bytes = after_first mark (skip_blanks bytes)

-- how many zeros stand at the front
abbrev pub zero_count : List ℕ → ℕ
zero_count [] = 0
zero_count (b ∷ bs) = if b == 48 then zero_count bs + 1 else 0

-- what follows zeros, at least one
unfoldable pub after_zeros : List ℕ → Option (List ℕ)
after_zeros bytes = if zero_count bytes == 0 then None else Some (drop (zero_count bytes) bytes)

-- what follows a fraction of zeros, where a point stands at the front
abbrev pub after_fraction : List ℕ → Option (List ℕ)
after_fraction [] = Some []
after_fraction (b ∷ bs) = if b == 46 then after_zeros bs else Some (b ∷ bs)

-- A number and what follows it: digits, and perhaps a fraction of zeros. A number of any length may stand;
-- one above 4,294,967,295, and so above every limit and duration, counts as 4,294,967,296.
unfoldable pub number_in : List ℕ → Option (ℕ × List ℕ)
number_in bytes =
    let count = digit_count bytes in
    if count == 0 then None
    else do
      rest ← after_fraction (drop count bytes)
      Some (min (digits_value 10 (take count bytes)) 4294967296, rest)

-- the byte, where it is an upper-case letter the lower-case one
abbrev pub lower : ℕ → ℕ
lower b = if nat_le 65 b && nat_le b 90 then b + 32 else b

-- a name that begins with these bytes
abbrev pub prefixed : List ℕ → Option (List ℕ × List ℕ) → Option (List ℕ × List ℕ)
prefixed front None = None
prefixed front (Some x) = Some (front ++ x.0, x.1)

-- a byte of a word, with one space before it where a blank stood there
abbrev pub spaced : Bool → ℕ → List ℕ
spaced gap b = if gap then 32 ∷ b ∷ [] else b ∷ []

-- The rest of a name in its one spelling, and what follows it, from behind a byte of a word: the name ends
-- with its parenthesis. Whether a blank stands before.
abbrev pub name_rest : Bool → List ℕ → Option (List ℕ × List ℕ)
name_rest gap [] = None
name_rest gap (b ∷ bs) =
    if b == 41 then Some (41 ∷ [], bs)
    else if is_blank b then name_rest true bs
    else if word_byte (lower b) then prefixed (spaced gap (lower b)) (name_rest false bs)
    else None

-- a name in its one spelling, and what follows it, from its first word on
abbrev pub words_in : List ℕ → Option (List ℕ × List ℕ)
words_in [] = None
words_in (b ∷ bs) = if word_byte (lower b) then prefixed (40 ∷ lower b ∷ []) (name_rest false bs) else None

-- a name in parentheses in its one spelling, and what follows it
unfoldable pub name_in : List ℕ → Option (List ℕ × List ℕ)
name_in bytes = do
  inside ← after_byte 40 bytes
  words_in (skip_blanks inside)

-- a number and a closing bracket, and what follows them
unfoldable pub bracketed : List ℕ → Option (Option ℕ × List ℕ)
bracketed bytes = do
  dur ← number_in (skip_blanks bytes)
  rest ← after_byte 93 dur.1
  Some (Some dur.0, rest)

-- the number in brackets, where an opening bracket is next, and what follows
abbrev pub bracket_by : Option (List ℕ) → List ℕ → Option (Option ℕ × List ℕ)
bracket_by None bytes = Some (None, bytes)
bracket_by (Some inside) bytes = bracketed inside

-- the duration in brackets, where one stands, and what follows
unfoldable pub duration_in : List ℕ → Option (Option ℕ × List ℕ)
duration_in bytes = bracket_by (after_byte 91 bytes) bytes

-- an entry: a start, a colon, a name, perhaps a duration, perhaps a comment
unfoldable pub entry_in : List ℕ → Option Entry
entry_in line = do
  start ← number_in (skip_blanks line)
  rest ← after_byte 58 start.1
  name ← name_in rest
  dur ← duration_in name.1
  if is_end (skip_blanks dur.1) then Some (record { start = start.0; name = name.0; dur = dur.0 }) else None

-- What a line says: an entry, or nothing where it is blank or a comment. None where it is not in the grammar.
unfoldable pub line_in : List ℕ → Option (Option Entry)
line_in line = if is_end (skip_blanks line) then Some None else option_map Some (entry_in line)
