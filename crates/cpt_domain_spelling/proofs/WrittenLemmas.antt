use Rattle.std.proofs.Common.{◌≡◌, ◌≢◌, ℕ, suc, ◌<◌, ◌≤◌, ◌++◌, ◌∷◌, [], true, List, length, map, All, refl, ap, ◌∙◌, arith}
use Rattle.std.specs.Char.{to_ascii_lowercase}
use Rattle.std.specs.List.{list_all}
use Rattle.std.specs.Str.{all_ascii_digits}
use Rattle.std.proofs.lemmas.Bool.{and_from, and_parts}
use Rattle.std.proofs.lemmas.Bool.Decides.{nat_tests}
use Rattle.std.proofs.lemmas.List.{map-append}
use Rattle.std.proofs.lemmas.List.Elements.{All-cons, All-nil}
use Rattle.std.proofs.lemmas.Str.Parse.{tells_all_ascii_digits}
use Rattle.cpt_line.specs.Names.{word_byte}
use Rattle.cpt_sexp.specs.Printing.{IsNameByte, IsPrintable, Nest, printed}
use Rattle.cpt_sexp.specs.Printing as nest
use Rattle.cpt_pddl.specs.Words.{is_word}

-- inside so many groups, the words of a nest are words of a domain, and at most 64 groups are inside one another
abbrev pub Written : ℕ → Nest → Type 0
Written depth nest.nothing = Unit {0}
Written depth (nest.name bytes rest) = (is_word bytes ≡ true) × Written depth rest
Written depth (nest.list inside rest) = (depth < 64) × Written (suc depth) inside × Written depth rest

-- a byte of a word is printable, and no upper-case letter
record ByteOfWord (b : ℕ) : Type 0 where
  byte : IsNameByte b
  lower : to_ascii_lowercase b ≡ b

low_byte : (b : ℕ) → word_byte b ≡ true → 33 ≤ b
low_byte b h = grind (arith, nat_tests)

high_byte : (b : ℕ) → word_byte b ≡ true → b ≤ 126
high_byte b h = grind (arith, nat_tests)

no_open : (b : ℕ) → word_byte b ≡ true → b ≢ 40
no_open b h e = grind (arith, nat_tests)

no_close : (b : ℕ) → word_byte b ≡ true → b ≢ 41
no_close b h e = grind (arith, nat_tests)

no_mark : (b : ℕ) → word_byte b ≡ true → b ≢ 59
no_mark b h e = grind (arith, nat_tests)

lower_byte : (b : ℕ) → word_byte b ≡ true → to_ascii_lowercase b ≡ b
lower_byte b h = grind (arith, nat_tests)

byte_of_word : (b : ℕ) → word_byte b ≡ true → ByteOfWord b
byte_of_word b h = record {
  byte = record { low = low_byte b h; high = high_byte b h; no_open = no_open b h; no_close = no_close b h; no_mark = no_mark b h };
  lower = lower_byte b h;
}

bytes_printable : (bs : List ℕ) → list_all word_byte bs ≡ true → All IsNameByte bs
bytes_printable [] h = All-nil IsNameByte
bytes_printable (b ∷ bs) h =
    let parts = and_parts (word_byte b) (list_all word_byte bs) h in
    All-cons IsNameByte b bs (byte_of_word b parts.0).byte (bytes_printable bs parts.1)

bytes_lower : (bs : List ℕ) → list_all word_byte bs ≡ true → map to_ascii_lowercase bs ≡ bs
bytes_lower [] h = refl
bytes_lower (b ∷ bs) h =
    let parts = and_parts (word_byte b) (list_all word_byte bs) h in
    ap (λ c. c ∷ map to_ascii_lowercase bs) (byte_of_word b parts.0).lower ∙ ap (λ cs. b ∷ cs) (bytes_lower bs parts.1)

word_some : (w : List ℕ) → is_word w ≡ true → 0 < length w
word_some [] h = cc
word_some (b ∷ bs) h = omega arith

word_bytes : (w : List ℕ) → is_word w ≡ true → list_all word_byte w ≡ true
word_bytes [] h = cc
word_bytes (b ∷ bs) h = h

pub written_printable : (depth : ℕ) (n : Nest) → Written depth n → IsPrintable depth n
written_printable depth nest.nothing h = tt
written_printable depth (nest.name bytes rest) h = (word_some bytes h.0, bytes_printable bytes (word_bytes bytes h.0), written_printable depth rest h.1)
written_printable depth (nest.list inside rest) h = (h.0, written_printable (suc depth) inside h.1, written_printable depth rest h.2)

pub written_lower : (depth : ℕ) (n : Nest) → Written depth n → map to_ascii_lowercase (printed n) ≡ printed n
written_lower depth nest.nothing h = refl
written_lower depth (nest.name bytes rest) h =
    map-append to_ascii_lowercase bytes (32 ∷ printed rest) ∙ ap (λ bs. bs ++ 32 ∷ map to_ascii_lowercase (printed rest)) (bytes_lower bytes (word_bytes bytes h.0))
    ∙ ap (λ bs. bytes ++ 32 ∷ bs) (written_lower depth rest h.1)
written_lower depth (nest.list inside rest) h =
    ap (λ bs. 40 ∷ bs) (map-append to_ascii_lowercase (printed inside) (41 ∷ (32 ∷ printed rest)))
    ∙ ap (λ bs. 40 ∷ (bs ++ 41 ∷ (32 ∷ map to_ascii_lowercase (printed rest)))) (written_lower (suc depth) inside h.1)
    ∙ ap (λ bs. 40 ∷ (printed inside ++ 41 ∷ (32 ∷ bs))) (written_lower depth rest h.2)

digit_byte : (b : ℕ) → 48 ≤ b → b ≤ 57 → word_byte b ≡ true
digit_byte b low high = grind (arith, nat_tests)

-- digits are bytes of words
pub digits_bytes : (ds : List ℕ) → all_ascii_digits ds ≡ true → list_all word_byte ds ≡ true
digits_bytes [] h = refl
digits_bytes (b ∷ bs) h =
    let parts = tells_all_ascii_digits.parts b bs h in
    and_from (word_byte b) (list_all word_byte bs) (digit_byte b parts.0.0 parts.0.1) (digits_bytes bs parts.1)

pub digits_word : (ds : List ℕ) → 0 < length ds → all_ascii_digits ds ≡ true → is_word ds ≡ true
digits_word [] some h = absurd (omega arith)
digits_word (b ∷ bs) some h = digits_bytes (b ∷ bs) h
