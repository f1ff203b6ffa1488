use Rattle.std.proofs.Common.{◌≡◌, ℕ, suc, ◌+◌, ◌%◌, ◌^◌, ◌<◌, min, Bool, true, false, ◌&&◌, cond, eqb, List, [], ◌∷◌, ◌++◌, length, take, drop, Option, None, Some, refl, sym, subst, ap, ◌∙◌, arith, inl, inr, ◌⊎◌}
use Rattle.std.specs.Char.{is_ascii_digit}
use Rattle.std.specs.Fmt.{decimal}
use Rattle.std.specs.Str.Parse.{digits_value}
use Rattle.std.proofs.lemmas.Bool.{false≢true, eqb-true}
use Rattle.std.proofs.lemmas.Bool.Decides.{nat_tests}
use Rattle.std.proofs.lemmas.Fmt.{decimal_by_steps, decimal_is_IsNumeral}
use Rattle.std.proofs.Math.Seq.{take-append_seam, drop-append_seam}
use Rattle.cpt_line.specs.Digits.{digit_count}
use Rattle.cpt_line.specs.Lines.{split}
use Rattle.cpt_line.specs.Names.{word_byte, name_after, is_name}
use Rattle.cpt_plan_text.specs.Grammar.{◌>>=◌, is_blank, skip_blanks, is_end, after_byte, after_fraction, number_in, lower, spaced, name_rest, words_in, name_in, bracketed, duration_in, entry_in, line_in}

-- digits alone
abbrev pub Digits : List ℕ → Type 0
Digits [] = Unit {0}
Digits (b ∷ bs) = (is_ascii_digit b ≡ true) × Digits bs

Digits-append : (xs ys : List ℕ) → Digits xs → Digits ys → Digits (xs ++ ys)
Digits-append [] ys p q = q
Digits-append (x ∷ xs) ys p q = (p.0, Digits-append xs ys p.1 q)

one_digit : (n : ℕ) → n < 10 → is_ascii_digit (48 + n) ≡ true
one_digit n h = grind (arith, nat_tests)

decimal_digits : (n : ℕ) → n < 2 ^ 64 → Digits (decimal n)
decimal_digits = decimal_by_steps (λ n ds. Digits ds) (λ n h. (one_digit n h, tt)) (λ n ds h p. Digits-append ds ((48 + n % 10) ∷ []) p (one_digit (n % 10) (omega arith), tt))

pub digit_count_front : (ds rest : List ℕ) → Digits ds → digit_count rest ≡ 0 → digit_count (ds ++ rest) ≡ length ds
digit_count_front [] rest p h = h
digit_count_front (d ∷ ds) rest p h = let e = p.0 in rw e (omega (arith, digit_count_front ds rest p.1 h))

-- what follows a number in a printed line
abbrev Stops : List ℕ → Type 0
Stops rest = (digit_count rest ≡ 0) × (after_fraction rest ≡ Some rest)

pub number_by : ℕ → List ℕ → Option (ℕ × List ℕ)
number_by count bytes = cond (eqb count 0) None (after_fraction (drop count bytes) >>= (λ rest. Some (min (digits_value 10 (take count bytes)) 4294967296, rest)))

pub number_is : (bytes : List ℕ) → number_in bytes ≡ number_by (digit_count bytes) bytes
unfolding number_in number_by
number_is bytes = refl

pub not_zero : (n : ℕ) → 0 < n → eqb n 0 ≡ false
not_zero n h = grind (arith, nat_tests)

pub some_count : (ds rest : List ℕ) → 0 < length ds → number_by (length ds) (ds ++ rest) ≡ (after_fraction rest >>= (λ rest. Some (min (digits_value 10 ds) 4294967296, rest)))
unfolding number_by
some_count ds rest h = rw (not_zero (length ds) h, take-append_seam ds rest, drop-append_seam ds rest) refl

number_front : (ds rest : List ℕ) → Digits ds → 0 < length ds → Stops rest → number_in (ds ++ rest) ≡ Some (min (digits_value 10 ds) 4294967296, rest)
number_front ds rest p some stops =
    number_is (ds ++ rest)
    ∙ ap (λ k. number_by k (ds ++ rest)) (digit_count_front ds rest p stops.0)
    ∙ some_count ds rest some
    ∙ ap (λ (r : Option (List ℕ)). r >>= (λ rest. Some (min (digits_value 10 ds) 4294967296, rest))) stops.1

pub decimal_front : (n : ℕ) (rest : List ℕ) → n < 4294967296 → Stops rest → number_in (decimal n ++ rest) ≡ Some (n, rest)
decimal_front n rest small stops =
    let numeral = decimal_is_IsNumeral n (omega arith) in
    let value : digits_value 10 (decimal n) ≡ n = numeral.1 in
    let same : min (digits_value 10 (decimal n)) 4294967296 ≡ n = omega arith in
    number_front (decimal n) rest (decimal_digits n (omega arith)) numeral.0.0 stops ∙ ap (λ (k : ℕ). Some (k, rest)) same

digit_is_no_blank : (b : ℕ) → is_ascii_digit b ≡ true → is_blank b ≡ false
digit_is_no_blank b h = grind (arith, nat_tests)

pub skip_digits : (ds rest : List ℕ) → Digits ds → 0 < length ds → skip_blanks (ds ++ rest) ≡ ds ++ rest
skip_digits [] rest p h = absurd (omega arith)
skip_digits (d ∷ ds) rest p h = rw (digit_is_no_blank d p.0) refl

skip_decimal : (n : ℕ) (rest : List ℕ) → n < 4294967296 → skip_blanks (decimal n ++ rest) ≡ decimal n ++ rest
skip_decimal n rest small = let numeral = decimal_is_IsNumeral n (omega arith) in skip_digits (decimal n) rest (decimal_digits n (omega arith)) numeral.0.0

digit_is_no_mark : (b : ℕ) → is_ascii_digit b ≡ true → eqb b 59 ≡ false
digit_is_no_mark b h = grind (arith, nat_tests)

pub digits_go_on : (ds rest : List ℕ) → Digits ds → 0 < length ds → is_end (ds ++ rest) ≡ false
digits_go_on [] rest p h = absurd (omega arith)
digits_go_on (d ∷ ds) rest p h = digit_is_no_mark d p.0

-- the rest of a printed name is read as it stands, and with a space before it where a blank stood there
abbrev ReadsRest : Bool → List ℕ → List ℕ → Type 0
ReadsRest true bs rest = name_rest false (bs ++ rest) ≡ Some (bs, rest)
ReadsRest false bs rest = name_rest true (bs ++ rest) ≡ Some (32 ∷ bs, rest)

and_true : (a b : Bool) → a && b ≡ true → (a ≡ true) × (b ≡ true)
and_true true b h = (refl, h)
and_true false b h = absurd (false≢true h)

-- the way that a test went
pub chosen : {A : Type 0} (b : Bool) (x y z : A) → cond b x y ≡ z → ((b ≡ true) × (x ≡ z)) ⊎ ((b ≡ false) × (y ≡ z))
chosen true x y z h = inl (refl, h)
chosen false x y z h = inr (refl, h)

word_is_no_end : (b : ℕ) → word_byte b ≡ true → eqb b 41 ≡ false
word_is_no_end b h = grind (arith, nat_tests)

word_is_no_blank : (b : ℕ) → word_byte b ≡ true → is_blank b ≡ false
word_is_no_blank b h = grind (arith, nat_tests)

word_is_lower : (b : ℕ) → word_byte b ≡ true → lower b ≡ b
word_is_lower b h = grind (arith, nat_tests)

rest_of_word : (gap : Bool) (b : ℕ) (bs rest : List ℕ) → word_byte b ≡ true → name_rest false (bs ++ rest) ≡ Some (bs, rest) → name_rest gap (b ∷ bs ++ rest) ≡ Some (spaced gap b ++ bs, rest)
rest_of_word gap b bs rest w more = rw (word_is_no_end b w, word_is_no_blank b w, word_is_lower b w, w, more) refl

end_back : (in_word : Bool) (b : ℕ) (bs rest : List ℕ) → eqb b 41 ≡ true → in_word && eqb (length bs) 0 ≡ true → ReadsRest in_word (b ∷ bs) rest
end_back false b bs rest e h = absurd (false≢true h)
end_back true b [] rest e h = subst (λ k. ReadsRest true (k ∷ []) rest) (sym (eqb-true b 41 e)) refl
end_back true b (x ∷ xs) rest e h = let z : suc (length xs) ≡ 0 = eqb-true (suc (length xs)) 0 h in absurd (omega arith)

space_back : (in_word : Bool) (b : ℕ) (bs rest : List ℕ) → eqb b 32 ≡ true → in_word && name_after false bs ≡ true → (name_after false bs ≡ true → ReadsRest false bs rest) → ReadsRest in_word (b ∷ bs) rest
space_back false b bs rest e h more = absurd (false≢true h)
space_back true b bs rest e h more = subst (λ k. ReadsRest true (k ∷ bs) rest) (sym (eqb-true b 32 e)) (more h)

word_back : (in_word : Bool) (b : ℕ) (bs rest : List ℕ) → word_byte b && name_after true bs ≡ true → (name_after true bs ≡ true → ReadsRest true bs rest) → ReadsRest in_word (b ∷ bs) rest
word_back true b bs rest h more = let p = and_true (word_byte b) (name_after true bs) h in rest_of_word false b bs rest p.0 (more p.1)
word_back false b bs rest h more = let p = and_true (word_byte b) (name_after true bs) h in rest_of_word true b bs rest p.0 (more p.1)

rest_back : (in_word : Bool) (bs rest : List ℕ) → name_after in_word bs ≡ true → ReadsRest in_word bs rest
rest_back in_word [] rest h = absurd (false≢true h)
rest_back in_word (b ∷ bs) rest h =
    let spaces = cond (eqb b 32) (in_word && name_after false bs) (word_byte b && name_after true bs) in
    elim (chosen (eqb b 41) (in_word && eqb (length bs) 0) spaces true h) [
      | inl p ↦ end_back in_word b bs rest p.0 p.1
      | inr p ↦ elim (chosen (eqb b 32) (in_word && name_after false bs) (word_byte b && name_after true bs) true p.1) [
        | inl q ↦ space_back in_word b bs rest q.0 q.1 (rest_back false bs rest)
        | inr q ↦ word_back in_word b bs rest q.1 (rest_back true bs rest)
      ]
    ]

-- a name begins with a byte of a word
first_byte : (b : ℕ) (bs : List ℕ) → name_after false (b ∷ bs) ≡ true → (word_byte b ≡ true) × (name_after true bs ≡ true)
first_byte b bs h =
    let spaces = cond (eqb b 32) false (word_byte b && name_after true bs) in
    elim (chosen (eqb b 41) false spaces true h) [
      | inl p ↦ absurd (false≢true p.1)
      | inr p ↦ elim (chosen (eqb b 32) false (word_byte b && name_after true bs) true p.1) [
        | inl q ↦ absurd (false≢true q.1)
        | inr q ↦ and_true (word_byte b) (name_after true bs) q.1
      ]
    ]

words_back : (b : ℕ) (bs rest : List ℕ) → word_byte b ≡ true → name_rest false (bs ++ rest) ≡ Some (bs, rest) → words_in (skip_blanks (b ∷ bs ++ rest)) ≡ Some (40 ∷ b ∷ bs, rest)
words_back b bs rest w more = rw (word_is_no_blank b w, word_is_lower b w, w, more) refl

inside_back : (bs rest : List ℕ) → name_after false bs ≡ true → words_in (skip_blanks (bs ++ rest)) ≡ Some (40 ∷ bs, rest)
inside_back [] rest h = absurd (false≢true h)
inside_back (b ∷ bs) rest h = let p = first_byte b bs h in words_back b bs rest p.0 (rest_back true bs rest p.1)

-- a name that is printed behind a space is read as it stands
pub name_back : (name rest : List ℕ) → is_name name ≡ true → name_in (32 ∷ name ++ rest) ≡ Some (name, rest)
unfolding name_in after_byte
name_back [] rest h = absurd (false≢true h)
name_back (b ∷ bs) rest h =
    let p = and_true (eqb b 40) (name_after false bs) h in
    subst (λ (k : ℕ). name_in (32 ∷ (k ∷ bs) ++ rest) ≡ Some (k ∷ bs, rest)) (sym (eqb-true b 40 p.0)) (inside_back bs rest p.1)

-- a duration in brackets
pub duration_back : (d : ℕ) → d < 4294967296 → duration_in (32 ∷ 91 ∷ (decimal d ++ 93 ∷ [])) ≡ Some (Some d, [])
unfolding duration_in bracketed after_byte
duration_back d small = rw (skip_decimal d (93 ∷ []) small, decimal_front d (93 ∷ []) small (refl, refl)) refl

-- the parts of a printed line, to the right
abbrev pub line_of_parts : ℕ → List ℕ → ℕ → List ℕ
line_of_parts n name d = decimal n ++ (58 ∷ 32 ∷ (name ++ (32 ∷ 91 ∷ (decimal d ++ 93 ∷ []))))

entry_back : (n : ℕ) (name : List ℕ) (d : ℕ) → n < 4294967296 → is_name name ≡ true → d < 4294967296 → entry_in (line_of_parts n name d) ≡ Some (record { start = n; name = name; dur = Some d })
unfolding entry_in after_byte
entry_back n name d early legal small =
    let after_name = 32 ∷ 91 ∷ (decimal d ++ 93 ∷ []) in
    let after_start = 58 ∷ 32 ∷ (name ++ after_name) in
    rw (skip_decimal n after_start early, decimal_front n after_start early (refl, refl), name_back name after_name legal, duration_back d small) refl

-- a printed line is read as what was printed
pub line_back : (n : ℕ) (name : List ℕ) (d : ℕ) → n < 4294967296 → is_name name ≡ true → d < 4294967296 → line_in (line_of_parts n name d) ≡ Some (Some (record { start = n; name = name; dur = Some d }))
unfolding line_in
line_back n name d early legal small =
    let rest = 58 ∷ 32 ∷ (name ++ (32 ∷ 91 ∷ (decimal d ++ 93 ∷ []))) in
    let numeral = decimal_is_IsNumeral n (omega arith) in
    rw (entry_back n name d early legal small, skip_decimal n rest early, digits_go_on (decimal n) rest (decimal_digits n (omega arith)) numeral.0.0) refl

-- no line feed
abbrev NoFeed : List ℕ → Type 0
NoFeed [] = Unit {0}
NoFeed (b ∷ bs) = (eqb b 10 ≡ false) × NoFeed bs

NoFeed-append : (xs ys : List ℕ) → NoFeed xs → NoFeed ys → NoFeed (xs ++ ys)
NoFeed-append [] ys p q = q
NoFeed-append (x ∷ xs) ys p q = (p.0, NoFeed-append xs ys p.1 q)

digit_is_no_feed : (b : ℕ) → is_ascii_digit b ≡ true → eqb b 10 ≡ false
digit_is_no_feed b h = grind (arith, nat_tests)

NoFeed-digits : (ds : List ℕ) → Digits ds → NoFeed ds
NoFeed-digits [] p = tt
NoFeed-digits (d ∷ ds) p = (digit_is_no_feed d p.0, NoFeed-digits ds p.1)

mark_is_no_feed : (b : ℕ) → eqb b 41 ≡ true → eqb b 10 ≡ false
mark_is_no_feed b h = grind (arith, nat_tests)

space_is_no_feed : (b : ℕ) → eqb b 32 ≡ true → eqb b 10 ≡ false
space_is_no_feed b h = grind (arith, nat_tests)

word_is_no_feed : (b : ℕ) → word_byte b ≡ true → eqb b 10 ≡ false
word_is_no_feed b h = grind (arith, nat_tests)

empty_after : (bs : List ℕ) → eqb (length bs) 0 ≡ true → NoFeed bs
empty_after [] h = tt
empty_after (x ∷ xs) h = let z : suc (length xs) ≡ 0 = eqb-true (suc (length xs)) 0 h in absurd (omega arith)

NoFeed-name_after : (in_word : Bool) (bs : List ℕ) → name_after in_word bs ≡ true → NoFeed bs
NoFeed-name_after in_word [] h = tt
NoFeed-name_after in_word (b ∷ bs) h =
    let spaces = cond (eqb b 32) (in_word && name_after false bs) (word_byte b && name_after true bs) in
    elim (chosen (eqb b 41) (in_word && eqb (length bs) 0) spaces true h) [
      | inl p ↦ (mark_is_no_feed b p.0, empty_after bs (and_true in_word (eqb (length bs) 0) p.1).1)
      | inr p ↦ elim (chosen (eqb b 32) (in_word && name_after false bs) (word_byte b && name_after true bs) true p.1) [
        | inl q ↦ (space_is_no_feed b q.0, NoFeed-name_after false bs (and_true in_word (name_after false bs) q.1).1)
        | inr q ↦ (word_is_no_feed b (and_true (word_byte b) (name_after true bs) q.1).0, NoFeed-name_after true bs (and_true (word_byte b) (name_after true bs) q.1).1)
      ]
    ]

open_is_no_feed : (b : ℕ) → eqb b 40 ≡ true → eqb b 10 ≡ false
open_is_no_feed b h = grind (arith, nat_tests)

NoFeed-name : (name : List ℕ) → is_name name ≡ true → NoFeed name
NoFeed-name [] h = tt
NoFeed-name (b ∷ bs) h = let p = and_true (eqb b 40) (name_after false bs) h in (open_is_no_feed b p.0, NoFeed-name_after false bs p.1)

NoFeed-line : (n : ℕ) (name : List ℕ) (d : ℕ) → n < 4294967296 → is_name name ≡ true → d < 4294967296 → NoFeed (line_of_parts n name d)
NoFeed-line n name d early legal small =
    let of_dur = NoFeed-append (decimal d) (93 ∷ []) (NoFeed-digits (decimal d) (decimal_digits d (omega arith))) (refl, tt) in
    let of_name = NoFeed-append name (32 ∷ 91 ∷ (decimal d ++ 93 ∷ [])) (NoFeed-name name legal) (refl, (refl, of_dur)) in
    NoFeed-append (decimal n) (58 ∷ 32 ∷ (name ++ (32 ∷ 91 ∷ (decimal d ++ 93 ∷ [])))) (NoFeed-digits (decimal n) (decimal_digits n (omega arith))) (refl, (refl, of_name))

split_feed : (line rest : List ℕ) → NoFeed line → split (line ++ 10 ∷ rest) ≡ (line ∷ (split rest).0, (split rest).1)
split_feed [] rest p = refl
split_feed (b ∷ bs) rest p = let more = split_feed bs rest p.1 in let e = p.0 in rw (e, more) refl

-- a printed line is the first line of what it begins
pub line_first : (n : ℕ) (name : List ℕ) (d : ℕ) (rest : List ℕ) → n < 4294967296 → is_name name ≡ true → d < 4294967296 → split (line_of_parts n name d ++ 10 ∷ rest) ≡ (line_of_parts n name d ∷ (split rest).0, (split rest).1)
line_first n name d rest early legal small = split_feed (line_of_parts n name d) rest (NoFeed-line n name d early legal small)
