use Rattle.std.proofs.Common.{◌≡◌, ℕ, suc, ◌<◌, min, Bool, true, false, eqb, All, List, [], ◌∷◌, ◌++◌, length, map, Option, None, Some, refl, sym, subst, ap, ◌∙◌, arith, append_assoc}
use Rattle.std.specs.Char.{is_ascii_digit, IsAsciiDigit}
use Rattle.std.specs.Str.Parse.{digits_value}
use Rattle.std.proofs.lemmas.Bool.Decides.{nat_tests}
use Rattle.std.proofs.lemmas.List.Elements.{All-head, All-tail}
use Rattle.std.proofs.Math.Seq.{drop-append_seam}
use Rattle.cpt_line.specs.Digits.{digit_count}
use Rattle.cpt_line.specs.Names.{word_byte}
use Rattle.cpt_plan_text.specs.declared.line.Entry.{Entry}
use Rattle.cpt_plan_text.specs.Entries.{AreBlanks, IsComment, IsFraction, SpellsNumber, IsWordByte, IsWord, NextWord, IsNextWord, words_written, words_spelled, SpellsName, SpellsDuration, SpellsEntry, IsSilent}
use Rattle.cpt_plan_text.specs.Grammar.{◌>>=◌, is_blank, skip_blanks, is_end, after_first, after_byte, zero_count, after_zeros, after_fraction, number_in, lower, spaced, name_rest, words_in, name_in, bracketed, duration_in, entry_in, line_in}
use Rattle.cpt_plan_text.proofs.EntryParts.{IsBlank, IsZero, line_has_parts, line_is_silent, name_right, spelling_right, bracket_right, line_right, regroup, regroup_number}
use Rattle.cpt_plan_text.proofs.LineBack.{Digits, number_by, number_is, digit_count_front, not_zero, some_count, skip_digits, digits_go_on}

-- blanks are skipped
skips_front : (blanks rest : List ℕ) → AreBlanks blanks → skip_blanks (blanks ++ rest) ≡ skip_blanks rest
skips_front [] rest h = refl
skips_front (b ∷ bs) rest h = let e : is_blank b ≡ true = All-head IsBlank b bs h in rw e (skips_front bs rest (All-tail IsBlank b bs h))

stays : (b : ℕ) (bs : List ℕ) → is_blank b ≡ false → skip_blanks (b ∷ bs) ≡ b ∷ bs
stays b bs h = rw h refl

same_byte : (m : ℕ) → eqb m m ≡ true
same_byte m = grind (arith, nat_tests)

first_back : (m : ℕ) (rest : List ℕ) → after_first m (m ∷ rest) ≡ Some rest
first_back m rest = rw (same_byte m) refl

byte_read : (m : ℕ) (blanks rest : List ℕ) → is_blank m ≡ false → AreBlanks blanks → after_byte m (blanks ++ m ∷ rest) ≡ Some rest
unfolding after_byte
byte_read m blanks rest other h = ap (after_first m) (skips_front blanks (m ∷ rest) h ∙ stays m rest other) ∙ first_back m rest

-- no digit and no point begins these bytes
abbrev Stops : List ℕ → Type 0
Stops [] = Unit {0}
Stops (b ∷ bs) = (is_ascii_digit b ≡ false) × (eqb b 46 ≡ false)

blank_stops : (b : ℕ) (bs : List ℕ) → is_blank b ≡ true → Stops (b ∷ bs)
blank_stops b bs h =
    let digit : is_ascii_digit b ≡ false = grind (arith, nat_tests) in
    let point : eqb b 46 ≡ false = grind (arith, nat_tests) in
    (digit, point)

mark_stops : (m : ℕ) (blanks rest : List ℕ) → Stops (m ∷ rest) → AreBlanks blanks → Stops (blanks ++ m ∷ rest)
mark_stops m [] rest stops h = stops
mark_stops m (b ∷ bs) rest stops h = blank_stops b (bs ++ m ∷ rest) (All-head IsBlank b bs h)

no_digits : (rest : List ℕ) → Stops rest → digit_count rest ≡ 0
no_digits [] h = refl
no_digits (b ∷ bs) h = let e = h.0 in rw e refl

no_zero : (b : ℕ) → is_ascii_digit b ≡ false → eqb b 48 ≡ false
no_zero b h = grind (arith, nat_tests)

no_zeros : (rest : List ℕ) → Stops rest → zero_count rest ≡ 0
no_zeros [] h = refl
no_zeros (b ∷ bs) h = let e = no_zero b h.0 in rw e refl

no_fraction : (rest : List ℕ) → Stops rest → after_fraction rest ≡ Some rest
no_fraction [] h = refl
no_fraction (b ∷ bs) h = let e = h.1 in rw e refl

zeros_count : (zeros rest : List ℕ) → All IsZero zeros → Stops rest → zero_count (zeros ++ rest) ≡ length zeros
zeros_count [] rest h stops = no_zeros rest stops
zeros_count (z ∷ zs) rest h stops =
    let is : 48 ≡ z = sym (All-head IsZero z zs h) in
    let more = zeros_count zs rest (All-tail IsZero z zs h) stops in
    subst (λ (k : ℕ). zero_count (k ∷ zs ++ rest) ≡ suc (length zs)) is (omega (arith, more))

zeros_read : (zeros rest : List ℕ) → 0 < length zeros → All IsZero zeros → Stops rest → after_zeros (zeros ++ rest) ≡ Some rest
unfolding after_zeros
zeros_read zeros rest some h stops = rw (zeros_count zeros rest h stops, not_zero (length zeros) some, drop-append_seam zeros rest) refl

-- behind the digits of a number
fraction_read : (fraction rest : List ℕ) → IsFraction fraction → Stops rest → after_fraction (fraction ++ rest) ≡ Some rest
fraction_read [] rest h stops = no_fraction rest stops
fraction_read (b ∷ zeros) rest h stops =
    let is : 46 ≡ b = sym h.0 in
    subst (λ (k : ℕ). after_fraction (k ∷ zeros ++ rest) ≡ Some rest) is (zeros_read zeros rest h.1 h.2 stops)

fraction_stops : (fraction rest : List ℕ) → IsFraction fraction → Stops rest → digit_count (fraction ++ rest) ≡ 0
fraction_stops [] rest h stops = no_digits rest stops
fraction_stops (b ∷ zeros) rest h stops =
    let is : 46 ≡ b = sym h.0 in
    subst (λ (k : ℕ). digit_count (k ∷ zeros ++ rest) ≡ 0) is refl

digit_true : (b : ℕ) → IsAsciiDigit b → is_ascii_digit b ≡ true
digit_true b h = grind (arith, nat_tests)

digits_of : (ds : List ℕ) → All IsAsciiDigit ds → Digits ds
digits_of [] h = tt
digits_of (d ∷ ds) h = (digit_true d (All-head IsAsciiDigit d ds h), digits_of ds (All-tail IsAsciiDigit d ds h))

digits_read : (ds rest left : List ℕ) → Digits ds → 0 < length ds → digit_count rest ≡ 0 → after_fraction rest ≡ Some left → number_in (ds ++ rest) ≡ Some (min (digits_value 10 ds) 4294967296, left)
digits_read ds rest left p some none fraction =
    number_is (ds ++ rest)
    ∙ ap (λ k. number_by k (ds ++ rest)) (digit_count_front ds rest p none)
    ∙ some_count ds rest some
    ∙ ap (λ (r : Option (List ℕ)). r >>= (λ rest. Some (min (digits_value 10 ds) 4294967296, rest))) fraction

-- the digits of a number to the right
number_right : (text : List ℕ) (value : ℕ) (rest : List ℕ) (n : SpellsNumber text value) → text ++ rest ≡ n.digits ++ (n.fraction ++ rest)
number_right text value rest n = ap (λ l. l ++ rest) n.whole ∙ append_assoc n.digits n.fraction rest

number_read : (text : List ℕ) (value : ℕ) (rest : List ℕ) → SpellsNumber text value → Stops rest → number_in (text ++ rest) ≡ Some (value, rest)
number_read text value rest n stops =
    ap number_in (number_right text value rest n)
    ∙ digits_read n.digits (n.fraction ++ rest) rest (digits_of n.digits n.are_digits) n.some (fraction_stops n.fraction rest n.is_fraction stops) (fraction_read n.fraction rest n.is_fraction stops)
    ∙ ap (λ (k : ℕ). Some (k, rest)) (sym n.counts)

skips_number : (text : List ℕ) (value : ℕ) (rest : List ℕ) → SpellsNumber text value → skip_blanks (text ++ rest) ≡ text ++ rest
skips_number text value rest n =
    ap skip_blanks (number_right text value rest n)
    ∙ skip_digits n.digits (n.fraction ++ rest) (digits_of n.digits n.are_digits) n.some
    ∙ sym (number_right text value rest n)

number_goes_on : (text : List ℕ) (value : ℕ) (rest : List ℕ) → SpellsNumber text value → is_end (text ++ rest) ≡ false
number_goes_on text value rest n = ap is_end (number_right text value rest n) ∙ digits_go_on n.digits (n.fraction ++ rest) (digits_of n.digits n.are_digits) n.some

-- the bytes of names
word_no_close : (b : ℕ) → word_byte (lower b) ≡ true → eqb b 41 ≡ false
word_no_close b h = grind (arith, nat_tests)

word_no_blank : (b : ℕ) → word_byte (lower b) ≡ true → is_blank b ≡ false
word_no_blank b h = grind (arith, nat_tests)

blank_no_close : (b : ℕ) → is_blank b ≡ true → eqb b 41 ≡ false
blank_no_close b h = grind (arith, nat_tests)

word_step : (gap : Bool) (b : ℕ) (bs later rest : List ℕ) → word_byte (lower b) ≡ true → name_rest false bs ≡ Some (later, rest) → name_rest gap (b ∷ bs) ≡ Some (spaced gap (lower b) ++ later, rest)
word_step gap b bs later rest w more = rw (word_no_close b w, word_no_blank b w, w, more) refl

blank_step : (gap : Bool) (b : ℕ) (bs : List ℕ) → is_blank b ≡ true → name_rest gap (b ∷ bs) ≡ name_rest true bs
blank_step gap b bs h = rw (blank_no_close b h, h) refl

blanks_step : (blanks bs : List ℕ) → AreBlanks blanks → name_rest true (blanks ++ bs) ≡ name_rest true bs
blanks_step [] bs h = refl
blanks_step (b ∷ blanks) bs h = blank_step true b (blanks ++ bs) (All-head IsBlank b blanks h) ∙ blanks_step blanks bs (All-tail IsBlank b blanks h)

gap_step : (gap bs : List ℕ) → 0 < length gap → AreBlanks gap → name_rest false (gap ++ bs) ≡ name_rest true bs
gap_step [] bs some h = absurd (omega arith)
gap_step (b ∷ blanks) bs some h = blank_step false b (blanks ++ bs) (All-head IsBlank b blanks h) ∙ blanks_step blanks bs (All-tail IsBlank b blanks h)

close_read : (gap : Bool) (back rest : List ℕ) → AreBlanks back → name_rest gap (back ++ 41 ∷ rest) ≡ Some (41 ∷ [], rest)
close_read gap [] rest h = refl
close_read gap (b ∷ back) rest h = blank_step gap b (back ++ 41 ∷ rest) (All-head IsBlank b back h) ∙ close_read true back rest (All-tail IsBlank b back h)

tail_read : (tail bs later rest : List ℕ) → All IsWordByte tail → name_rest false bs ≡ Some (later, rest) → name_rest false (tail ++ bs) ≡ Some (map lower tail ++ later, rest)
tail_read [] bs later rest h more = more
tail_read (b ∷ tail) bs later rest h more =
    word_step false b (tail ++ bs) (map lower tail ++ later) rest (All-head IsWordByte b tail h) (tail_read tail bs later rest (All-tail IsWordByte b tail h) more)

word_read : (word bs later rest : List ℕ) → IsWord word → name_rest false bs ≡ Some (later, rest) → name_rest true (word ++ bs) ≡ Some (32 ∷ (map lower word ++ later), rest)
word_read [] bs later rest h more = let none = h.0 in absurd (omega arith)
word_read (b ∷ tail) bs later rest h more =
    word_step true b (tail ++ bs) (map lower tail ++ later) rest (All-head IsWordByte b tail h.1) (tail_read tail bs later rest (All-tail IsWordByte b tail h.1) more)

next_read : (w : NextWord) (bs later rest : List ℕ) → IsNextWord w → name_rest false bs ≡ Some (later, rest) → name_rest false (w.gap ++ (w.bytes ++ bs)) ≡ Some (32 ∷ (map lower w.bytes ++ later), rest)
next_read w bs later rest h more = gap_step w.gap (w.bytes ++ bs) h.0 h.1 ∙ word_read w.bytes bs later rest h.2 more

three_right : (a b c d : List ℕ) → ((a ++ b) ++ c) ++ d ≡ a ++ (b ++ (c ++ d))
three_right a b c d = simp append_assoc

others_read : (others : List NextWord) (bs later rest : List ℕ) → All IsNextWord others → name_rest false bs ≡ Some (later, rest) → name_rest false (words_written others ++ bs) ≡ Some (words_spelled others ++ later, rest)
others_read [] bs later rest h more = more
others_read (w ∷ ws) bs later rest h more =
    ap (name_rest false) (three_right w.gap w.bytes (words_written ws) bs)
    ∙ next_read w (words_written ws ++ bs) (words_spelled ws ++ later) rest (All-head IsNextWord w ws h) (others_read ws bs later rest (All-tail IsNextWord w ws h) more)
    ∙ ap (λ (l : List ℕ). Some (32 ∷ l, rest)) (sym (append_assoc (map lower w.bytes) (words_spelled ws) later))

-- the first word and what is behind it
first_read : (first bs later rest : List ℕ) → IsWord first → name_rest false bs ≡ Some (later, rest) → words_in (skip_blanks (first ++ bs)) ≡ Some (40 ∷ (map lower first ++ later), rest)
first_read [] bs later rest h more = let none = h.0 in absurd (omega arith)
first_read (b ∷ tail) bs later rest h more =
    let w : word_byte (lower b) ≡ true = All-head IsWordByte b tail h.1 in
    let behind = tail_read tail bs later rest (All-tail IsWordByte b tail h.1) more in
    rw (word_no_blank b w, w, behind) refl

name_read : (blanks text name rest : List ℕ) → AreBlanks blanks → SpellsName text name → name_in (blanks ++ (text ++ rest)) ≡ Some (name, rest)
unfolding name_in
name_read blanks text name rest h n =
    let behind = words_written n.others ++ (n.back ++ 41 ∷ rest) in
    let inside = n.front ++ (n.first ++ behind) in
    let whole : text ++ rest ≡ 40 ∷ inside =
    ap (λ l. l ++ rest) (n.whole ∙ name_right n.front n.first (words_written n.others) n.back) ∙ ap (λ l. 40 ∷ l) (regroup n.front n.first (words_written n.others) n.back rest) in
    let opened : after_byte 40 (blanks ++ (text ++ rest)) ≡ Some inside = ap (λ l. after_byte 40 (blanks ++ l)) whole ∙ byte_read 40 blanks inside refl h in
    let others = others_read n.others (n.back ++ 41 ∷ rest) (41 ∷ []) rest n.other_words (close_read false n.back rest n.back_blank) in
    let spelling : 40 ∷ (map lower n.first ++ (words_spelled n.others ++ 41 ∷ [])) ≡ name = sym (n.spells ∙ spelling_right (map lower n.first) (words_spelled n.others)) in
    ap (λ (o : Option (List ℕ)). o >>= (λ (inside : List ℕ). words_in (skip_blanks inside))) opened
    ∙ ap words_in (skips_front n.front (n.first ++ behind) n.front_blank)
    ∙ first_read n.first behind (words_spelled n.others ++ 41 ∷ []) rest n.first_word others
    ∙ ap (λ (l : List ℕ). Some (l, rest)) spelling

-- no bytes, or a comment
comment_read : (blanks comment : List ℕ) → AreBlanks blanks → IsComment comment → is_end (skip_blanks (blanks ++ comment)) ≡ true
comment_read blanks [] h c = ap is_end (skips_front blanks [] h)
comment_read blanks (b ∷ said) h c =
    let is : 59 ≡ b = sym c in
    ap is_end (skips_front blanks (b ∷ said) h) ∙ subst (λ (k : ℕ). is_end (skip_blanks (k ∷ said)) ≡ true) is refl

no_bracket : (comment : List ℕ) → IsComment comment → after_first 91 (skip_blanks comment) ≡ None
no_bracket [] c = refl
no_bracket (b ∷ said) c = let is : 59 ≡ b = sym c in subst (λ (k : ℕ). after_first 91 (skip_blanks (k ∷ said)) ≡ None) is refl

no_duration : (blanks after comment : List ℕ) → AreBlanks blanks → AreBlanks after → IsComment comment → after_byte 91 (blanks ++ (after ++ comment)) ≡ None
unfolding after_byte
no_duration blanks after comment h k c = ap (after_first 91) (skips_front blanks (after ++ comment) h ∙ skips_front after comment k) ∙ no_bracket comment c

absent : (bytes : List ℕ) → after_byte 91 bytes ≡ None → duration_in bytes ≡ Some (None, bytes)
unfolding duration_in
absent bytes h = rw h refl

present : (bytes inside : List ℕ) (dur : Option ℕ) (rest : List ℕ) → after_byte 91 bytes ≡ Some inside → bracketed inside ≡ Some (dur, rest) → duration_in bytes ≡ Some (dur, rest)
unfolding duration_in
present bytes inside dur rest h more = rw h more

bracket_steps : (bytes text behind rest : List ℕ) (value : ℕ) → skip_blanks bytes ≡ text → number_in text ≡ Some (value, behind) → after_byte 93 behind ≡ Some rest → bracketed bytes ≡ Some (Some value, rest)
unfolding bracketed
bracket_steps bytes text behind rest value p q r = rw (p, q, r) refl

-- What is read of a duration, and what is left of the line. Where there is none, the blanks before it are left too.
record Left (bytes : List ℕ) (dur : Option ℕ) : Type 0 where
  left : List ℕ
  is : duration_in bytes ≡ Some (dur, left)
  ends : is_end (skip_blanks left) ≡ true

none_left : (blanks after comment : List ℕ) → AreBlanks blanks → AreBlanks after → IsComment comment → Left (blanks ++ (after ++ comment)) None
none_left blanks after comment h k c =
    record { left = blanks ++ (after ++ comment); is = absent (blanks ++ (after ++ comment)) (no_duration blanks after comment h k c); ends = ap is_end (skips_front blanks (after ++ comment) h) ∙ comment_read after comment k c }

duration_read : (blanks text after comment : List ℕ) (dur : Option ℕ) → AreBlanks blanks → SpellsDuration text dur → AreBlanks after → IsComment comment → Left (blanks ++ (text ++ (after ++ comment))) dur
duration_read blanks text after comment None h d k c = subst (λ (l : List ℕ). Left (blanks ++ (l ++ (after ++ comment))) None) (sym d) (none_left blanks after comment h k c)
duration_read blanks text after comment (Some value) h d k c =
    let rest = after ++ comment in
    let behind = d.back ++ 93 ∷ rest in
    let inside = d.front ++ (d.number ++ behind) in
    let whole : text ++ rest ≡ 91 ∷ inside = ap (λ l. l ++ rest) (d.whole ∙ bracket_right d.front d.number d.back) ∙ ap (λ l. 91 ∷ l) (regroup_number d.front d.number d.back rest) in
    let opened : after_byte 91 (blanks ++ (text ++ rest)) ≡ Some inside = ap (λ l. after_byte 91 (blanks ++ l)) whole ∙ byte_read 91 blanks inside refl h in
    let skipped : skip_blanks inside ≡ d.number ++ behind = skips_front d.front (d.number ++ behind) d.front_blank ∙ skips_number d.number value behind d.is_number in
    let number = number_read d.number value behind d.is_number (mark_stops 93 d.back rest (refl, refl) d.back_blank) in
    let bracket = bracket_steps inside (d.number ++ behind) behind rest value skipped number (byte_read 93 d.back rest refl d.back_blank) in
    record { left = rest; is = present (blanks ++ (text ++ rest)) inside (Some value) rest opened bracket; ends = comment_read after comment k c }

entry_steps : (line a b c d e : List ℕ) (start : ℕ) (name : List ℕ) (dur : Option ℕ) → skip_blanks line ≡ a → number_in a ≡ Some (start, b) → after_byte 58 b ≡ Some c → name_in c ≡ Some (name, d) → duration_in d ≡ Some (dur, e) → is_end (skip_blanks e) ≡ true
    → entry_in line ≡ Some (record { start = start; name = name; dur = dur })
unfolding entry_in
entry_steps line a b c d e start name dur p q r s t u = rw (p, q, r, s, t, u) refl

line_steps : (line : List ℕ) (entry : Entry) → is_end (skip_blanks line) ≡ false → entry_in line ≡ Some entry → line_in line ≡ Some (Some entry)
unfolding line_in
line_steps line entry p q = rw (p, q) refl

-- an entry is read from its parts
pub parts_are_read : (line : List ℕ) (entry : Entry) → SpellsEntry line entry → line_in line ≡ Some (Some entry)
parts_are_read line entry p =
    let d = p.behind_name ++ (p.duration ++ (p.behind_duration ++ p.comment)) in
    let c = p.behind_colon ++ (p.name ++ d) in
    let b = p.behind_start ++ 58 ∷ c in
    let a = p.start ++ b in
    let whole : line ≡ p.front ++ a = p.whole ∙ line_right p.front p.start p.behind_start p.behind_colon p.name p.behind_name p.duration p.behind_duration p.comment in
    let skipped : skip_blanks line ≡ a = ap skip_blanks whole ∙ skips_front p.front a p.front_blank ∙ skips_number p.start entry.start b p.is_start in
    let start = number_read p.start entry.start b p.is_start (mark_stops 58 p.behind_start c (refl, refl) p.behind_start_blank) in
    let colon = byte_read 58 p.behind_start c refl p.behind_start_blank in
    let name = name_read p.behind_colon p.name entry.name d p.behind_colon_blank p.is_name in
    let left = duration_read p.behind_name p.duration p.behind_duration p.comment entry.dur p.behind_name_blank p.is_duration p.behind_duration_blank p.is_comment in
    line_steps line entry (ap is_end skipped ∙ number_goes_on p.start entry.start b p.is_start) (entry_steps line a b c d left.left entry.start entry.name entry.dur skipped start colon name left.is left.ends)

silent_steps : (line : List ℕ) → is_end (skip_blanks line) ≡ true → line_in line ≡ Some None
unfolding line_in
silent_steps line p = rw p refl

-- nothing is read where a line says nothing
pub silence_is_read : (line : List ℕ) → IsSilent line → line_in line ≡ Some None
silence_is_read line p = silent_steps line (ap (λ l. is_end (skip_blanks l)) p.whole ∙ comment_read p.front p.comment p.front_blank p.is_comment)

pub refused_is_neither : (line : List ℕ) → line_in line ≡ None → ((entry : Entry) → SpellsEntry line entry → ⊥) × (IsSilent line → ⊥)
refused_is_neither line h =
    (λ entry p. let read = parts_are_read line entry p in let z : ⊥ = cc in z, λ p. let read = silence_is_read line p in let z : ⊥ = cc in z)

answered : (o : Option (Option Entry)) → ((entry : Entry) → o ≡ Some (Some entry) → ⊥) → (o ≡ Some None → ⊥) → o ≡ None
answered None p q = refl
answered (Some None) p q = absurd (q refl)
answered (Some (Some entry)) p q = absurd (p entry refl)

pub neither_is_refused : (line : List ℕ) → ((entry : Entry) → SpellsEntry line entry → ⊥) → (IsSilent line → ⊥) → line_in line ≡ None
neither_is_refused line p q = answered (line_in line) (λ entry h. p entry (line_has_parts line entry h)) (λ h. q (line_is_silent line h))
