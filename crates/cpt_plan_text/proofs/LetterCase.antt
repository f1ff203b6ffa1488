use Rattle.std.proofs.Common.{◌≡◌, ℕ, ◌+◌, ◌<◌, ◌⊎◌, inl, inr, min, Bool, true, false, cond, eqb, List, [], ◌∷◌, ◌++◌, map, take, drop, Option, None, Some, refl, sym, ap, ◌∙◌, arith, add-one}
use Rattle.std.specs.Char.{is_ascii_digit}
use Rattle.std.specs.Str.Parse.{digits_value}
use Rattle.std.proofs.lemmas.Bool.Decides.{nat_tests}
use Rattle.std.proofs.lemmas.List.{map-append, drop-map}
use Rattle.cpt_task.specs.Shape.{TaskShape}
use Rattle.cpt_line.specs.Digits.{digit_count}
use Rattle.cpt_line.specs.Lines.{split, glue}
use Rattle.cpt_line.specs.Names.{word_byte}
use Rattle.cpt_plan_text.specs.declared.roster.Found.{Found}
use Rattle.cpt_plan_text.specs.declared.line.Entry.{Entry}
use Rattle.cpt_plan_text.specs.Grammar.{◌>>=◌, is_blank, skip_blanks, is_end, after_first, after_byte, zero_count, after_zeros, after_fraction, number_in, lower, prefixed, spaced, name_rest, words_in, name_in, bracketed, bracket_by, duration_in, entry_in, line_in}
use Rattle.cpt_plan_text.specs.Meaning.{said_at, item_at, items_in, lines_of, plan_of}

-- the bytes with their letters in lower case
abbrev low : List ℕ → List ℕ
low bs = map lower bs

-- a value and the bytes after it, with their letters in lower case
abbrev rest_low : {A : Type 0} → Option (A × List ℕ) → Option (A × List ℕ)
rest_low None = None
rest_low (Some x) = Some (x.0, low x.1)

abbrev bytes_low : Option (List ℕ) → Option (List ℕ)
bytes_low None = None
bytes_low (Some bs) = Some (low bs)

-- a byte that is no letter
abbrev IsMark : ℕ → Type 0
IsMark m = (m < 65) ⊎ ((90 < m) × (m < 97))

blank_kept : (b : ℕ) → is_blank (lower b) ≡ is_blank b
blank_kept b = grind (arith, nat_tests)

mark_kept : (m b : ℕ) → IsMark m → eqb (lower b) m ≡ eqb b m
mark_kept m b h = grind (arith, nat_tests)

digit_kept : (b : ℕ) → is_ascii_digit (lower b) ≡ is_ascii_digit b
digit_kept b = grind (arith, nat_tests)

lower_twice : (b : ℕ) → lower (lower b) ≡ lower b
lower_twice b = grind (arith, nat_tests)

digit_is_lower : (b : ℕ) → is_ascii_digit b ≡ true → lower b ≡ b
digit_is_lower b h = grind (arith, nat_tests)

skip_by : (t : Bool) (b : ℕ) (bs : List ℕ) → skip_blanks (low bs) ≡ low (skip_blanks bs) → cond t (skip_blanks (low bs)) (lower b ∷ low bs) ≡ low (cond t (skip_blanks bs) (b ∷ bs))
skip_by true b bs h = h
skip_by false b bs h = refl

skip_kept : (bs : List ℕ) → skip_blanks (low bs) ≡ low (skip_blanks bs)
skip_kept [] = refl
skip_kept (b ∷ bs) = rw (blank_kept b) (skip_by (is_blank b) b bs (skip_kept bs))

end_kept : (bs : List ℕ) → is_end (low bs) ≡ is_end bs
end_kept [] = refl
end_kept (b ∷ bs) = mark_kept 59 b (inl (omega arith))

first_by : (t : Bool) (bs : List ℕ) → cond t (Some (low bs)) None ≡ bytes_low (cond t (Some bs) None)
first_by true bs = refl
first_by false bs = refl

first_kept : (m : ℕ) (bs : List ℕ) → IsMark m → after_first m (low bs) ≡ bytes_low (after_first m bs)
first_kept m [] h = refl
first_kept m (b ∷ bs) h = rw (mark_kept m b h) (first_by (eqb b m) bs)

byte_kept : (m : ℕ) (bs : List ℕ) → IsMark m → after_byte m (low bs) ≡ bytes_low (after_byte m bs)
unfolding after_byte
byte_kept m bs h = ap (after_first m) (skip_kept bs) ∙ first_kept m (skip_blanks bs) h

zero_kept : (bs : List ℕ) → zero_count (low bs) ≡ zero_count bs
zero_kept [] = refl
zero_kept (b ∷ bs) = rw (mark_kept 48 b (inl (omega arith)), zero_kept bs) refl

zeros_by : (t : Bool) (bs : List ℕ) → cond t None (Some (low bs)) ≡ bytes_low (cond t None (Some bs))
zeros_by true bs = refl
zeros_by false bs = refl

zeros_kept : (bs : List ℕ) → after_zeros (low bs) ≡ bytes_low (after_zeros bs)
unfolding after_zeros
zeros_kept bs = rw (zero_kept bs, drop-map) (zeros_by (eqb (zero_count bs) 0) (drop (zero_count bs) bs))

fraction_by : (t : Bool) (b : ℕ) (bs : List ℕ) → cond t (after_zeros (low bs)) (Some (low (b ∷ bs))) ≡ bytes_low (cond t (after_zeros bs) (Some (b ∷ bs)))
fraction_by true b bs = zeros_kept bs
fraction_by false b bs = refl

fraction_kept : (bs : List ℕ) → after_fraction (low bs) ≡ bytes_low (after_fraction bs)
fraction_kept [] = refl
fraction_kept (b ∷ bs) = rw (mark_kept 46 b (inl (omega arith))) (fraction_by (eqb b 46) b bs)

count_kept : (bs : List ℕ) → digit_count (low bs) ≡ digit_count bs
count_kept [] = refl
count_kept (b ∷ bs) = rw (digit_kept b, count_kept bs) refl

digits_by : (t : Bool) (b : ℕ) (bs : List ℕ) → is_ascii_digit b ≡ t → take (digit_count bs) (low bs) ≡ take (digit_count bs) bs → take (cond t (digit_count bs + 1) 0) (lower b ∷ low bs) ≡ take (cond t (digit_count bs + 1) 0) (b ∷ bs)
digits_by true b bs h more = rw (add-one, digit_is_lower b h) (ap (λ l. b ∷ l) more)
digits_by false b bs h more = refl

digits_same : (bs : List ℕ) → take (digit_count bs) (low bs) ≡ take (digit_count bs) bs
digits_same [] = refl
digits_same (b ∷ bs) = digits_by (is_ascii_digit b) b bs refl (digits_same bs)

number_by : (t : Bool) (n : ℕ) (rest : Option (List ℕ)) → cond t None (bytes_low rest >>= (λ r. Some (n, r))) ≡ rest_low (cond t None (rest >>= (λ r. Some (n, r))))
number_by true n rest = refl
number_by false n None = refl
number_by false n (Some r) = refl

number_kept : (bs : List ℕ) → number_in (low bs) ≡ rest_low (number_in bs)
unfolding number_in
number_kept bs =
    rw (count_kept bs, digits_same bs, drop-map, fraction_kept (drop (digit_count bs) bs))
    (number_by (eqb (digit_count bs) 0) (min (digits_value 10 (take (digit_count bs) bs)) 4294967296) (after_fraction (drop (digit_count bs) bs)))

prefixed_kept : (front : List ℕ) (r : Option (List ℕ × List ℕ)) → prefixed front (rest_low r) ≡ rest_low (prefixed front r)
prefixed_kept front None = refl
prefixed_kept front (Some x) = refl

rest_by : (t u v : Bool) (gap : Bool) (b : ℕ) (bs : List ℕ) → ((g : Bool) → name_rest g (low bs) ≡ rest_low (name_rest g bs))
    → cond t (Some (41 ∷ [], low bs)) (cond u (name_rest true (low bs)) (cond v (prefixed (spaced gap b) (name_rest false (low bs))) None))
    ≡ rest_low (cond t (Some (41 ∷ [], bs)) (cond u (name_rest true bs) (cond v (prefixed (spaced gap b) (name_rest false bs)) None)))
rest_by true u v gap b bs more = refl
rest_by false true v gap b bs more = more true
rest_by false false true gap b bs more = ap (prefixed (spaced gap b)) (more false) ∙ prefixed_kept (spaced gap b) (name_rest false bs)
rest_by false false false gap b bs more = refl

-- the rest of a name from a byte on: whether it is the parenthesis, whether it is a blank, and the byte in lower case
abbrev rest_at : Bool → Bool → ℕ → Bool → List ℕ → Option (List ℕ × List ℕ)
rest_at t u c gap bs = cond t (Some (41 ∷ [], bs)) (cond u (name_rest true bs) (cond (word_byte c) (prefixed (spaced gap c) (name_rest false bs)) None))

rest_kept : (gap : Bool) (bs : List ℕ) → name_rest gap (low bs) ≡ rest_low (name_rest gap bs)
rest_kept gap [] = refl
rest_kept gap (b ∷ bs) =
    ap (λ t. rest_at t (is_blank (lower b)) (lower (lower b)) gap (low bs)) (mark_kept 41 b (inl (omega arith)))
    ∙ ap (λ u. rest_at (eqb b 41) u (lower (lower b)) gap (low bs)) (blank_kept b)
    ∙ ap (λ c. rest_at (eqb b 41) (is_blank b) c gap (low bs)) (lower_twice b)
    ∙ (rest_by (eqb b 41) (is_blank b) (word_byte (lower b)) gap (lower b) bs (λ g. rest_kept g bs))

words_by : (t : Bool) (b : ℕ) (bs : List ℕ) → cond t (prefixed (40 ∷ b ∷ []) (name_rest false (low bs))) None ≡ rest_low (cond t (prefixed (40 ∷ b ∷ []) (name_rest false bs)) None)
words_by true b bs = ap (prefixed (40 ∷ b ∷ [])) (rest_kept false bs) ∙ prefixed_kept (40 ∷ b ∷ []) (name_rest false bs)
words_by false b bs = refl

words_kept : (bs : List ℕ) → words_in (low bs) ≡ rest_low (words_in bs)
words_kept [] = refl
words_kept (b ∷ bs) =
    ap (λ c. cond (word_byte c) (prefixed (40 ∷ c ∷ []) (name_rest false (low bs))) None) (lower_twice b)
    ∙ words_by (word_byte (lower b)) (lower b) bs

name_by : (inside : Option (List ℕ)) → bytes_low inside >>= (λ bs. words_in (skip_blanks bs)) ≡ rest_low (inside >>= (λ bs. words_in (skip_blanks bs)))
name_by None = refl
name_by (Some bs) = ap words_in (skip_kept bs) ∙ words_kept (skip_blanks bs)

name_kept : (bs : List ℕ) → name_in (low bs) ≡ rest_low (name_in bs)
unfolding name_in
name_kept bs = rw (byte_kept 40 bs (inl (omega arith))) (name_by (after_byte 40 bs))

closed_by : (d : ℕ) (rest : Option (List ℕ)) → bytes_low rest >>= (λ r. Some (Some d, r)) ≡ rest_low (rest >>= (λ r. Some (Some d, r)))
closed_by d None = refl
closed_by d (Some r) = refl

bracketed_by : (dur : Option (ℕ × List ℕ)) → rest_low dur >>= (λ d. after_byte 93 d.1 >>= (λ r. Some (Some d.0, r))) ≡ rest_low (dur >>= (λ d. after_byte 93 d.1 >>= (λ r. Some (Some d.0, r))))
bracketed_by None = refl
bracketed_by (Some d) = rw (byte_kept 93 d.1 (inr (omega arith, omega arith))) (closed_by d.0 (after_byte 93 d.1))

bracketed_kept : (bs : List ℕ) → bracketed (low bs) ≡ rest_low (bracketed bs)
unfolding bracketed
bracketed_kept bs = rw (skip_kept bs, number_kept (skip_blanks bs)) (bracketed_by (number_in (skip_blanks bs)))

bracket_kept : (inside : Option (List ℕ)) (bs : List ℕ) → bracket_by (bytes_low inside) (low bs) ≡ rest_low (bracket_by inside bs)
bracket_kept None bs = refl
bracket_kept (Some inside) bs = bracketed_kept inside

duration_kept : (bs : List ℕ) → duration_in (low bs) ≡ rest_low (duration_in bs)
unfolding duration_in
duration_kept bs = rw (byte_kept 91 bs (inr (omega arith, omega arith))) (bracket_kept (after_byte 91 bs) bs)

-- the parts of an entry behind its start, its name and its duration
after_duration : ℕ → List ℕ → Option (Option ℕ × List ℕ) → Option Entry
after_duration start name dur = dur >>= (λ d. cond (is_end (skip_blanks d.1)) (Some (record { start = start; name = name; dur = d.0 })) None)

after_name : ℕ → Option (List ℕ × List ℕ) → Option Entry
after_name start name = name >>= (λ n. after_duration start n.0 (duration_in n.1))

after_colon : ℕ → Option (List ℕ) → Option Entry
after_colon start rest = rest >>= (λ r. after_name start (name_in r))

after_start : Option (ℕ × List ℕ) → Option Entry
after_start start = start >>= (λ s. after_colon s.0 (after_byte 58 s.1))

entry_is : (line : List ℕ) → entry_in line ≡ after_start (number_in (skip_blanks line))
unfolding entry_in after_start after_colon after_name after_duration
entry_is line = refl

after_duration_kept : (start : ℕ) (name : List ℕ) (dur : Option (Option ℕ × List ℕ)) → after_duration start name (rest_low dur) ≡ after_duration start name dur
unfolding after_duration
after_duration_kept start name None = refl
after_duration_kept start name (Some d) = rw (skip_kept d.1, end_kept (skip_blanks d.1)) refl

after_name_kept : (start : ℕ) (name : Option (List ℕ × List ℕ)) → after_name start (rest_low name) ≡ after_name start name
unfolding after_name
after_name_kept start None = refl
after_name_kept start (Some n) = ap (after_duration start n.0) (duration_kept n.1) ∙ after_duration_kept start n.0 (duration_in n.1)

after_colon_kept : (start : ℕ) (rest : Option (List ℕ)) → after_colon start (bytes_low rest) ≡ after_colon start rest
unfolding after_colon
after_colon_kept start None = refl
after_colon_kept start (Some r) = ap (after_name start) (name_kept r) ∙ after_name_kept start (name_in r)

after_start_kept : (start : Option (ℕ × List ℕ)) → after_start (rest_low start) ≡ after_start start
unfolding after_start
after_start_kept None = refl
after_start_kept (Some s) = ap (after_colon s.0) (byte_kept 58 s.1 (inl (omega arith))) ∙ after_colon_kept s.0 (after_byte 58 s.1)

entry_kept : (line : List ℕ) → entry_in (low line) ≡ entry_in line
entry_kept line =
    entry_is (low line)
    ∙ ap (λ bs. after_start (number_in bs)) (skip_kept line)
    ∙ ap after_start (number_kept (skip_blanks line))
    ∙ after_start_kept (number_in (skip_blanks line))
    ∙ sym (entry_is line)

line_kept : (line : List ℕ) → line_in (low line) ≡ line_in line
unfolding line_in
line_kept line = rw (skip_kept line, end_kept (skip_blanks line), entry_kept line) refl

-- the lines of a text and what follows them, with their letters in lower case
abbrev split_low : List (List ℕ) × List ℕ → List (List ℕ) × List ℕ
split_low p = (map low p.0, low p.1)

glue_kept : (b : ℕ) (p : List (List ℕ) × List ℕ) → glue (lower b ∷ []) (split_low p) ≡ split_low (glue (b ∷ []) p)
glue_kept b ([], rest) = refl
glue_kept b (line ∷ lines, rest) = refl

split_by : (t : Bool) (b : ℕ) (p q : List (List ℕ) × List ℕ) → q ≡ split_low p → cond t ([] ∷ q.0, q.1) (glue (lower b ∷ []) q) ≡ split_low (cond t ([] ∷ p.0, p.1) (glue (b ∷ []) p))
split_by true b p q h = ap (λ (s : List (List ℕ) × List ℕ). ([] ∷ s.0, s.1)) h
split_by false b p q h = ap (glue (lower b ∷ [])) h ∙ glue_kept b p

split_kept : (text : List ℕ) → split (low text) ≡ split_low (split text)
split_kept [] = refl
split_kept (b ∷ bs) = rw (mark_kept 10 b (inl (omega arith))) (split_by (eqb b 10) b (split bs) (split (low bs)) (split_kept bs))

lines_kept : (text : List ℕ) → lines_of (low text) ≡ map low (lines_of text)
lines_kept text = ap (λ (p : List (List ℕ) × List ℕ). p.0 ++ p.1 ∷ []) (split_kept text) ∙ sym (map-append low (split text).0 ((split text).1 ∷ []))

item_kept : (finds : List ℕ → Found) (t : TaskShape) (n : ℕ) (line : List ℕ) → item_at finds t n (low line) ≡ item_at finds t n line
unfolding item_at
item_kept finds t n line = ap (said_at finds t n) (line_kept line)

items_kept : (finds : List ℕ → Found) (t : TaskShape) (n : ℕ) (lines : List (List ℕ)) → items_in finds t n (map low lines) ≡ items_in finds t n lines
items_kept finds t n [] = refl
items_kept finds t n (line ∷ lines) = rw (item_kept finds t n line, items_kept finds t (n + 1) lines) refl

-- letter case is ignored
pub case_ignored : (finds : List ℕ → Found) (t : TaskShape) (text : List ℕ) → plan_of finds t (map lower text) ≡ plan_of finds t text
unfolding plan_of
case_ignored finds t text =
    let items = ap (items_in finds t 1) (lines_kept text) ∙ items_kept finds t 1 (lines_of text) in
    rw items refl
