use Rattle.std.proofs.Common.{◌≡◌, ℕ, suc, ◌+◌, ◌<◌, ◌⊎◌, inl, inr, min, Bool, true, false, cond, eqb, All, List, [], ◌∷◌, ◌++◌, length, map, codes, take, drop, Option, None, Some, refl, sym, subst, ap, ◌∙◌, arith, add-one, append_assoc}
use Rattle.std.specs.Char.{is_ascii_digit, IsAsciiDigit}
use Rattle.std.specs.Option.{option_map}
use Rattle.std.specs.Str.Parse.{digits_value}
use Rattle.std.proofs.lemmas.Bool.{eqb-true}
use Rattle.std.proofs.lemmas.Bool.Decides.{nat_tests}
use Rattle.std.proofs.lemmas.List.{take-append-drop}
use Rattle.std.proofs.lemmas.List.Elements.{All-nil, All-cons, All-head, All-tail}
use Rattle.cpt_line.specs.Digits.{digit_count}
use Rattle.cpt_line.specs.Names.{word_byte}
use Rattle.cpt_plan_text.specs.declared.line.Entry.{Entry}
use Rattle.cpt_plan_text.specs.Entries.{AreBlanks, IsComment, IsFraction, SpellsNumber, IsWordByte, NextWord, IsNextWord, words_written, words_spelled, SpellsName, SpellsBracketed, SpellsDuration, SpellsEntry, IsSilent}
use Rattle.cpt_plan_text.specs.Grammar.{◌>>=◌, is_blank, skip_blanks, is_end, after_first, after_byte, zero_count, after_zeros, after_fraction, number_in, lower, prefixed, spaced, name_rest, words_in, name_in, bracketed, bracket_by, duration_in, entry_in, line_in}
use Rattle.cpt_plan_text.proofs.LineBack.{chosen}

-- an answer of two steps
bind_some : {A B : Type 0} (o : Option A) (f : A → Option B) (y : B) → (o >>= f) ≡ Some y → (x : A) × (o ≡ Some x) × (f x ≡ Some y)
bind_some (Some x) f y e = (x, refl, e)
bind_some None f y e = absurd (let z : ⊥ = cc in z)

-- an answer behind a test
kept : {A : Type 0} (t : Bool) (o : Option A) (y : A) → cond t None o ≡ Some y → (t ≡ false) × (o ≡ Some y)
kept true o y h = absurd (let z : ⊥ = cc in z)
kept false o y h = (refl, h)

passed : {A : Type 0} (t : Bool) (x y : A) → cond t (Some x) None ≡ Some y → (t ≡ true) × (x ≡ y)
passed true x y h = (refl, let e : x ≡ y = cc in e)
passed false x y h = absurd (let z : ⊥ = cc in z)

pairs : {A B : Type 0} (p q : A × B) → Some p ≡ Some q → (p.0 ≡ q.0) × (p.1 ≡ q.1)
pairs {A} {B} p q h = let e : p ≡ q = cc in (ap (λ (x : A × B). x.0) e, ap (λ (x : A × B). x.1) e)

abbrev pub IsBlank : ℕ → Type 0
IsBlank b = is_blank b ≡ true

abbrev pub IsZero : ℕ → Type 0
IsZero b = b ≡ 48

-- blanks, and the rest behind them
record Skips (bytes rest : List ℕ) : Type 0 where
  blanks : List ℕ
  are_blank : AreBlanks blanks
  whole : bytes ≡ blanks ++ rest

skips_by : (t : Bool) (b : ℕ) (bs : List ℕ) → is_blank b ≡ t → Skips bs (skip_blanks bs) → Skips (b ∷ bs) (cond t (skip_blanks bs) (b ∷ bs))
skips_by true b bs h more = record { blanks = b ∷ more.blanks; are_blank = All-cons IsBlank b more.blanks h more.are_blank; whole = ap (λ l. b ∷ l) more.whole }
skips_by false b bs h more = record { blanks = []; are_blank = All-nil IsBlank; whole = refl }

skips : (bytes : List ℕ) → Skips bytes (skip_blanks bytes)
skips [] = record { blanks = []; are_blank = All-nil IsBlank; whole = refl }
skips (b ∷ bs) = skips_by (is_blank b) b bs refl (skips bs)

first_parts : (m : ℕ) (bytes rest : List ℕ) → after_first m bytes ≡ Some rest → bytes ≡ m ∷ rest
first_parts m [] rest h = absurd (let z : ⊥ = cc in z)
first_parts m (b ∷ bs) rest h =
    elim (chosen (eqb b m) (Some bs) None (Some rest) h) [
      | inl p ↦ let e : b ≡ m = eqb-true b m p.0 in let is = p.1 in let same : bs ≡ rest = cc in cc
      | inr p ↦ let no = p.1 in absurd (let z : ⊥ = cc in z)
    ]

byte_parts : (m : ℕ) (bytes rest : List ℕ) → after_byte m bytes ≡ Some rest → Skips bytes (m ∷ rest)
unfolding after_byte
byte_parts m bytes rest h =
    let s = skips bytes in
    record { blanks = s.blanks; are_blank = s.are_blank; whole = s.whole ∙ ap (λ l. s.blanks ++ l) (first_parts m (skip_blanks bytes) rest h) }

-- so many bytes at the front are like this
abbrev Front : (ℕ → Type 0) → List ℕ → ℕ → Type 0
Front P bytes n = (length (take n bytes) ≡ n) × All P (take n bytes)

front_by : (P : ℕ → Type 0) (t : Bool) (b : ℕ) (bs : List ℕ) (n : ℕ) → (t ≡ true → P b) → Front P bs n → Front P (b ∷ bs) (cond t (n + 1) 0)
front_by P true b bs n p more = subst (Front P (b ∷ bs)) (sym (add-one n)) (ap suc more.0, All-cons P b (take n bs) (p refl) more.1)
front_by P false b bs n p more = (refl, All-nil P)

is_digit : (b : ℕ) → is_ascii_digit b ≡ true → IsAsciiDigit b
is_digit b h = grind (arith, nat_tests)

digits_front : (bytes : List ℕ) → Front IsAsciiDigit bytes (digit_count bytes)
digits_front [] = (refl, All-nil IsAsciiDigit)
digits_front (b ∷ bs) = front_by IsAsciiDigit (is_ascii_digit b) b bs (digit_count bs) (is_digit b) (digits_front bs)

zeros_front : (bytes : List ℕ) → Front IsZero bytes (zero_count bytes)
zeros_front [] = (refl, All-nil IsZero)
zeros_front (b ∷ bs) = front_by IsZero (eqb b 48) b bs (zero_count bs) (eqb-true b 48) (zeros_front bs)

some_front : (P : ℕ → Type 0) (bytes : List ℕ) (n : ℕ) → Front P bytes n → eqb n 0 ≡ false → 0 < length (take n bytes)
some_front P bytes n h some =
    let whole : length (take n bytes) ≡ n = h.0 in
    let above : 0 < n = grind (arith, nat_tests) in
    omega arith

-- zeros, at least one, and the rest
record Zeros (bytes rest : List ℕ) : Type 0 where
  zeros : List ℕ
  some : 0 < length zeros
  are_zeros : All IsZero zeros
  whole : bytes ≡ zeros ++ rest

zeros_parts : (bytes rest : List ℕ) → after_zeros bytes ≡ Some rest → Zeros bytes rest
unfolding after_zeros
zeros_parts bytes rest h =
    let count = zero_count bytes in
    let p = kept (eqb count 0) (Some (drop count bytes)) rest h in
    let is = p.1 in
    let same : drop count bytes ≡ rest = cc in
    let front = zeros_front bytes in
    record {
      zeros = take count bytes;
      some = some_front IsZero bytes count front p.0;
      are_zeros = front.1;
      whole = sym (take-append-drop count bytes) ∙ ap (λ l. take count bytes ++ l) same;
    }

-- a fraction, and the rest
record Fraction (bytes rest : List ℕ) : Type 0 where
  fraction : List ℕ
  is_fraction : IsFraction fraction
  whole : bytes ≡ fraction ++ rest

fraction_parts : (bytes rest : List ℕ) → after_fraction bytes ≡ Some rest → Fraction bytes rest
fraction_parts [] rest h = record { fraction = []; is_fraction = tt; whole = let e : [] ≡ rest = cc in e }
fraction_parts (b ∷ bs) rest h =
    elim (chosen (eqb b 46) (after_zeros bs) (Some (b ∷ bs)) (Some rest) h) [
      | inl p ↦ let z = zeros_parts bs rest p.1 in record { fraction = b ∷ z.zeros; is_fraction = (eqb-true b 46 p.0, z.some, z.are_zeros); whole = ap (λ l. b ∷ l) z.whole }
      | inr p ↦ let is = p.1 in record { fraction = []; is_fraction = tt; whole = let e : b ∷ bs ≡ rest = cc in e }
    ]

-- a number, and the rest
record Number (bytes : List ℕ) (value : ℕ) (rest : List ℕ) : Type 0 where
  text : List ℕ
  is_number : SpellsNumber text value
  whole : bytes ≡ text ++ rest

three_parts : (bytes front behind fraction left rest : List ℕ) → front ++ behind ≡ bytes → behind ≡ fraction ++ left → left ≡ rest → bytes ≡ (front ++ fraction) ++ rest
three_parts bytes front behind fraction left rest p q r = sym p ∙ ap (λ l. front ++ l) (q ∙ ap (λ l. fraction ++ l) r) ∙ sym (append_assoc front fraction rest)

number_parts : (bytes : List ℕ) (value : ℕ) (rest : List ℕ) → number_in bytes ≡ Some (value, rest) → Number bytes value rest
unfolding number_in
number_parts bytes value rest h =
    let count = digit_count bytes in
    let digits = take count bytes in
    let p = kept (eqb count 0) (after_fraction (drop count bytes) >>= (λ (r : List ℕ). Some (min (digits_value 10 digits) 4294967296, r))) (value, rest) h in
    let q = bind_some (after_fraction (drop count bytes)) (λ (r : List ℕ). Some (min (digits_value 10 digits) 4294967296, r)) (value, rest) p.1 in
    let f = fraction_parts (drop count bytes) q.0 q.1 in
    let s = pairs (min (digits_value 10 digits) 4294967296, q.0) (value, rest) q.2 in
    let front = digits_front bytes in
    record {
      text = digits ++ f.fraction;
      is_number = record {
        digits = digits;
        fraction = f.fraction;
        whole = refl;
        some = some_front IsAsciiDigit bytes count front p.0;
        are_digits = front.1;
        is_fraction = f.is_fraction;
        counts = sym s.0;
      };
      whole = three_parts bytes digits (drop count bytes) f.fraction q.0 rest (take-append-drop count bytes) f.whole s.1;
    }

-- the rest of a name from a blank on, in its spelling, and what follows it
record Words (bytes name rest : List ℕ) : Type 0 where
  others : List NextWord
  back : List ℕ
  other_words : All IsNextWord others
  back_blank : AreBlanks back
  whole : bytes ≡ words_written others ++ (back ++ 41 ∷ rest)
  spells : name ≡ words_spelled others ++ 41 ∷ []

-- the rest of a name from behind a byte of a word, in its spelling, and what follows it
record Tail (bytes name rest : List ℕ) : Type 0 where
  tail : List ℕ
  others : List NextWord
  back : List ℕ
  tail_bytes : All IsWordByte tail
  other_words : All IsNextWord others
  back_blank : AreBlanks back
  whole : bytes ≡ tail ++ (words_written others ++ (back ++ 41 ∷ rest))
  spells : name ≡ map lower tail ++ (words_spelled others ++ 41 ∷ [])

-- what is read from behind a byte of a word, or from behind a blank
abbrev Reads : Bool → List ℕ → List ℕ → List ℕ → Type 0
Reads true bytes name rest = (b : ℕ) → is_blank b ≡ true → Words (b ∷ bytes) name rest
Reads false bytes name rest = Tail bytes name rest

no_tail : (bytes name rest : List ℕ) → Words bytes name rest → Tail bytes name rest
no_tail bytes name rest w =
    record { tail = []; others = w.others; back = w.back; tail_bytes = All-nil IsWordByte; other_words = w.other_words; back_blank = w.back_blank; whole = w.whole; spells = w.spells }

closed : (b : ℕ) (bs name rest : List ℕ) → eqb b 41 ≡ true → ◌≡◌ {A = Option (List ℕ × List ℕ)} (Some (41 ∷ [], bs)) (Some (name, rest)) → (b ∷ bs ≡ 41 ∷ rest) × (name ≡ 41 ∷ [])
closed b bs name rest e h =
    let s = pairs (41 ∷ [], bs) (name, rest) h in
    let is : b ≡ 41 = eqb-true b 41 e in
    let same : bs ≡ rest = s.1 in
    let both : b ∷ bs ≡ 41 ∷ rest = cc in
    (both, sym s.0)

close_parts : (gap : Bool) (b : ℕ) (bs name rest : List ℕ) → (b ∷ bs ≡ 41 ∷ rest) × (name ≡ 41 ∷ []) → Reads gap (b ∷ bs) name rest
close_parts false b bs name rest h =
    record { tail = []; others = []; back = []; tail_bytes = All-nil IsWordByte; other_words = All-nil IsNextWord; back_blank = All-nil IsBlank; whole = h.0; spells = h.1 }
close_parts true b bs name rest h = λ c blank.
    record { others = []; back = c ∷ []; other_words = All-nil IsNextWord; back_blank = All-cons IsBlank c [] blank (All-nil IsBlank); whole = ap (λ l. c ∷ l) h.0; spells = h.1 }

-- one more blank at the front
wider : (c : ℕ) (bytes name rest : List ℕ) (others : List NextWord) (back : List ℕ) → is_blank c ≡ true → All IsNextWord others → AreBlanks back → bytes ≡ words_written others ++ (back ++ 41 ∷ rest) → name ≡ words_spelled others ++ 41 ∷ []
    → Words (c ∷ bytes) name rest
wider c bytes name rest [] back blank words back_blank whole spells =
    record { others = []; back = c ∷ back; other_words = words; back_blank = All-cons IsBlank c back blank back_blank; whole = ap (λ l. c ∷ l) whole; spells = spells }
wider c bytes name rest (w ∷ ws) back blank words back_blank whole spells =
    let at = All-head IsNextWord w ws words in
    let wide : NextWord = record { gap = c ∷ w.gap; bytes = w.bytes } in
    let is : IsNextWord wide = (let k : 0 < suc (length w.gap) = omega arith in k, All-cons IsBlank c w.gap blank at.1, at.2) in
    record { others = wide ∷ ws; back = back; other_words = All-cons IsNextWord wide ws is (All-tail IsNextWord w ws words); back_blank = back_blank; whole = ap (λ l. c ∷ l) whole; spells = spells }

blank_parts : (gap : Bool) (b : ℕ) (bs name rest : List ℕ) → is_blank b ≡ true → Reads true bs name rest → Reads gap (b ∷ bs) name rest
blank_parts false b bs name rest e more = no_tail (b ∷ bs) name rest (more b e)
blank_parts true b bs name rest e more = λ c blank. let w = more b e in wider c (b ∷ bs) name rest w.others w.back blank w.other_words w.back_blank w.whole w.spells

word_parts : (gap : Bool) (b : ℕ) (bs name rest later : List ℕ) → IsWordByte b → Tail bs later rest → name ≡ spaced gap (lower b) ++ later → Reads gap (b ∷ bs) name rest
word_parts false b bs name rest later w t h =
    record { tail = b ∷ t.tail; others = t.others; back = t.back; tail_bytes = All-cons IsWordByte b t.tail w t.tail_bytes; other_words = t.other_words; back_blank = t.back_blank; whole = ap (λ l. b ∷ l) t.whole; spells = h ∙ ap (λ l. lower b ∷ l) t.spells }
word_parts true b bs name rest later w t h = λ c blank.
    let word : NextWord = record { gap = c ∷ []; bytes = b ∷ t.tail } in
    let some : (0 < 1) × (0 < suc (length t.tail)) = (omega arith, omega arith) in
    let is : IsNextWord word = (some.0, All-cons IsBlank c [] blank (All-nil IsBlank), (some.1, All-cons IsWordByte b t.tail w t.tail_bytes)) in
    record {
      others = word ∷ t.others;
      back = t.back;
      other_words = All-cons IsNextWord word t.others is t.other_words;
      back_blank = t.back_blank;
      whole = ap (λ l. c ∷ b ∷ l) (t.whole ∙ sym (append_assoc t.tail (words_written t.others) (t.back ++ 41 ∷ rest)));
      spells = h ∙ ap (λ l. 32 ∷ lower b ∷ l) (t.spells ∙ sym (append_assoc (map lower t.tail) (words_spelled t.others) (41 ∷ [])));
    }

prefixed_parts : (front : List ℕ) (o : Option (List ℕ × List ℕ)) (name rest : List ℕ) → prefixed front o ≡ Some (name, rest) → (later : List ℕ) × (o ≡ Some (later, rest)) × (name ≡ front ++ later)
prefixed_parts front None name rest h = absurd (let z : ⊥ = cc in z)
prefixed_parts front (Some p) name rest h =
    let s = pairs (front ++ p.0, p.1) (name, rest) h in
    (p.0, ap (λ (r : List ℕ). Some (p.0, r)) s.1, sym s.0)

rest_parts : (gap : Bool) (bytes name rest : List ℕ) → name_rest gap bytes ≡ Some (name, rest) → Reads gap bytes name rest
rest_parts gap [] name rest h = absurd (let z : ⊥ = cc in z)
rest_parts gap (b ∷ bs) name rest h =
    let word = cond (word_byte (lower b)) (prefixed (spaced gap (lower b)) (name_rest false bs)) None in
    elim (chosen (eqb b 41) (Some (41 ∷ [], bs)) (cond (is_blank b) (name_rest true bs) word) (Some (name, rest)) h) [
      | inl p ↦ close_parts gap b bs name rest (closed b bs name rest p.0 p.1)
      | inr p ↦ elim (chosen (is_blank b) (name_rest true bs) word (Some (name, rest)) p.1) [
        | inl q ↦ blank_parts gap b bs name rest q.0 (rest_parts true bs name rest q.1)
        | inr q ↦ elim (chosen (word_byte (lower b)) (prefixed (spaced gap (lower b)) (name_rest false bs)) None (Some (name, rest)) q.1) [
          | inl w ↦
              let later = prefixed_parts (spaced gap (lower b)) (name_rest false bs) name rest w.1 in
              word_parts gap b bs name rest later.0 w.0 (rest_parts false bs later.0 rest later.1) later.2
          | inr w ↦ let no = w.1 in absurd (let z : ⊥ = cc in z)
        ]
      ]
    ]

-- the words of a name behind its parenthesis, from the first on, in its spelling, and what follows it
words_parts : (bytes name rest : List ℕ) → words_in bytes ≡ Some (name, rest) → (b : ℕ) × (bs : List ℕ) × (later : List ℕ) × IsWordByte b × (bytes ≡ b ∷ bs) × (name ≡ 40 ∷ lower b ∷ later) × Tail bs later rest
words_parts [] name rest h = absurd (let z : ⊥ = cc in z)
words_parts (b ∷ bs) name rest h =
    elim (chosen (word_byte (lower b)) (prefixed (40 ∷ lower b ∷ []) (name_rest false bs)) None (Some (name, rest)) h) [
      | inl w ↦
          let later = prefixed_parts (40 ∷ lower b ∷ []) (name_rest false bs) name rest w.1 in
          (b, bs, later.0, w.0, refl, later.2, rest_parts false bs later.0 rest later.1)
      | inr w ↦ let no = w.1 in absurd (let z : ⊥ = cc in z)
    ]

-- blanks, a name, and the rest
record Name (bytes name rest : List ℕ) : Type 0 where
  blanks : List ℕ
  text : List ℕ
  are_blank : AreBlanks blanks
  is_name : SpellsName text name
  whole : bytes ≡ blanks ++ (text ++ rest)

-- the parts of a name, of a bracket and of a line, to the right
pub name_right : (f a o k : List ℕ) → codes "(" ++ f ++ a ++ o ++ k ++ codes ")" ≡ 40 ∷ (f ++ (a ++ (o ++ (k ++ 41 ∷ []))))
name_right f a o k = simp append_assoc

pub spelling_right : (a o : List ℕ) → codes "(" ++ a ++ o ++ codes ")" ≡ 40 ∷ (a ++ (o ++ 41 ∷ []))
spelling_right a o = simp append_assoc

pub bracket_right : (f n k : List ℕ) → codes "[" ++ f ++ n ++ k ++ codes "]" ≡ 91 ∷ (f ++ (n ++ (k ++ 93 ∷ [])))
bracket_right f n k = simp append_assoc

pub line_right : (f s k n m u v t g : List ℕ) → f ++ s ++ k ++ codes ":" ++ n ++ m ++ u ++ v ++ t ++ g ≡ f ++ (s ++ (k ++ 58 ∷ (n ++ (m ++ (u ++ (v ++ (t ++ g)))))))
line_right f s k n m u v t g = simp append_assoc

pub regroup : (f a o k rest : List ℕ) → (f ++ (a ++ (o ++ (k ++ 41 ∷ [])))) ++ rest ≡ f ++ (a ++ (o ++ (k ++ 41 ∷ rest)))
regroup f a o k rest = simp append_assoc

inside_parts : (bytes name rest : List ℕ) → words_in (skip_blanks bytes) ≡ Some (name, rest) → (text : List ℕ) × SpellsName text name × (40 ∷ bytes ≡ text ++ rest)
inside_parts bytes name rest h =
    let s = skips bytes in
    let w = words_parts (skip_blanks bytes) name rest h in
    let t = w.6 in
    let first = w.0 ∷ t.tail in
    let some : 0 < suc (length t.tail) = omega arith in
    let inner : bytes ≡ s.blanks ++ (first ++ (words_written t.others ++ (t.back ++ 41 ∷ rest))) = s.whole ∙ ap (λ l. s.blanks ++ l) (w.4 ∙ ap (λ l. w.0 ∷ l) t.whole) in (
      40 ∷ (s.blanks ++ (first ++ (words_written t.others ++ (t.back ++ 41 ∷ [])))),
      record {
        front = s.blanks;
        first = first;
        others = t.others;
        back = t.back;
        whole = sym (name_right s.blanks first (words_written t.others) t.back);
        front_blank = s.are_blank;
        first_word = (some, All-cons IsWordByte w.0 t.tail w.3 t.tail_bytes);
        other_words = t.other_words;
        back_blank = t.back_blank;
        spells = w.5 ∙ ap (λ l. 40 ∷ lower w.0 ∷ l) t.spells ∙ sym (spelling_right (map lower first) (words_spelled t.others));
      },
      ap (λ l. 40 ∷ l) (inner ∙ sym (regroup s.blanks first (words_written t.others) t.back rest)),
    )

name_parts : (bytes name rest : List ℕ) → name_in bytes ≡ Some (name, rest) → Name bytes name rest
unfolding name_in
name_parts bytes name rest h =
    let open_at = bind_some (after_byte 40 bytes) (λ (inside : List ℕ). words_in (skip_blanks inside)) (name, rest) h in
    let s = byte_parts 40 bytes open_at.0 open_at.1 in
    let n = inside_parts open_at.0 name rest open_at.2 in
    record { blanks = s.blanks; text = n.0; are_blank = s.are_blank; is_name = n.1; whole = s.whole ∙ ap (λ l. s.blanks ++ l) n.2 }

-- blanks, a duration, and the rest
record Duration (bytes : List ℕ) (dur : Option ℕ) (rest : List ℕ) : Type 0 where
  blanks : List ℕ
  text : List ℕ
  are_blank : AreBlanks blanks
  is_duration : SpellsDuration text dur
  whole : bytes ≡ blanks ++ (text ++ rest)

pub regroup_number : (f n k rest : List ℕ) → (f ++ (n ++ (k ++ 93 ∷ []))) ++ rest ≡ f ++ (n ++ (k ++ 93 ∷ rest))
regroup_number f n k rest = simp append_assoc

bracket_parts : (bytes : List ℕ) (dur : Option ℕ) (rest : List ℕ) → bracketed bytes ≡ Some (dur, rest) → (text : List ℕ) × SpellsDuration text dur × (91 ∷ bytes ≡ text ++ rest)
unfolding bracketed
bracket_parts bytes dur rest h =
    let a = bind_some (number_in (skip_blanks bytes)) (λ (d : ℕ × List ℕ). after_byte 93 d.1 >>= (λ (r : List ℕ). Some (Some d.0, r))) (dur, rest) h in
    let b = bind_some (after_byte 93 a.0.1) (λ (r : List ℕ). Some (Some a.0.0, r)) (dur, rest) a.2 in
    let p = pairs (Some a.0.0, b.0) (dur, rest) b.2 in
    let s = skips bytes in
    let n = number_parts (skip_blanks bytes) a.0.0 a.0.1 a.1 in
    let k = byte_parts 93 a.0.1 b.0 b.1 in
    let text = 91 ∷ (s.blanks ++ (n.text ++ (k.blanks ++ 93 ∷ []))) in
    let is : SpellsBracketed text a.0.0 = record { front = s.blanks; number = n.text; back = k.blanks; whole = sym (bracket_right s.blanks n.text k.blanks); front_blank = s.are_blank; is_number = n.is_number; back_blank = k.are_blank } in
    let inner : bytes ≡ s.blanks ++ (n.text ++ (k.blanks ++ 93 ∷ rest)) =
    s.whole ∙ ap (λ l. s.blanks ++ l) (n.whole ∙ ap (λ l. n.text ++ l) (k.whole ∙ ap (λ l. k.blanks ++ 93 ∷ l) p.1)) in
    (text, subst (SpellsDuration text) p.0 is, ap (λ l. 91 ∷ l) (inner ∙ sym (regroup_number s.blanks n.text k.blanks rest)))

duration_by : (o : Option (List ℕ)) (bytes : List ℕ) (dur : Option ℕ) (rest : List ℕ) → after_byte 91 bytes ≡ o → bracket_by o bytes ≡ Some (dur, rest) → Duration bytes dur rest
duration_by None bytes dur rest e h =
    let p = pairs (None, bytes) (dur, rest) h in
    record { blanks = []; text = []; are_blank = All-nil IsBlank; is_duration = subst (SpellsDuration []) p.0 refl; whole = p.1 }
duration_by (Some inside) bytes dur rest e h =
    let s = byte_parts 91 bytes inside e in
    let n = bracket_parts inside dur rest h in
    record { blanks = s.blanks; text = n.0; are_blank = s.are_blank; is_duration = n.1; whole = s.whole ∙ ap (λ l. s.blanks ++ l) n.2 }

duration_parts : (bytes : List ℕ) (dur : Option ℕ) (rest : List ℕ) → duration_in bytes ≡ Some (dur, rest) → Duration bytes dur rest
unfolding duration_in
duration_parts bytes dur rest h = duration_by (after_byte 91 bytes) bytes dur rest refl h

-- the steps of an entry behind its start, its colon, its name and its duration
abbrev after_duration : ℕ → List ℕ → Option ℕ × List ℕ → Option Entry
after_duration start name d = cond (is_end (skip_blanks d.1)) (Some (record { start = start; name = name; dur = d.0 })) None

abbrev after_name : ℕ → List ℕ × List ℕ → Option Entry
after_name start n = duration_in n.1 >>= (λ (d : Option ℕ × List ℕ). after_duration start n.0 d)

abbrev after_colon : ℕ → List ℕ → Option Entry
after_colon start rest = name_in rest >>= (λ (n : List ℕ × List ℕ). after_name start n)

abbrev after_start : ℕ × List ℕ → Option Entry
after_start s = after_byte 58 s.1 >>= (λ (rest : List ℕ). after_colon s.0 rest)

entry_is : (line : List ℕ) → entry_in line ≡ (number_in (skip_blanks line) >>= (λ (s : ℕ × List ℕ). after_start s))
unfolding entry_in
entry_is line = refl

chain : (line f a s b k c n m d u v e t g : List ℕ) → line ≡ f ++ a → a ≡ s ++ b → b ≡ k ++ 58 ∷ c → c ≡ n ++ (m ++ d) → d ≡ u ++ (v ++ e) → e ≡ t ++ g → line ≡ f ++ s ++ k ++ codes ":" ++ n ++ m ++ u ++ v ++ t ++ g
chain line f a s b k c n m d u v e t g p q r w x y =
    p ∙ ap (λ l. f ++ l) (q ∙ ap (λ l. s ++ l) (r ∙ ap (λ l. k ++ 58 ∷ l) (w ∙ ap (λ l. n ++ (m ++ l)) (x ∙ ap (λ l. u ++ (v ++ l)) y)))) ∙ sym (line_right f s k n m u v t g)

end_comment : (bytes : List ℕ) → is_end bytes ≡ true → IsComment bytes
end_comment [] h = tt
end_comment (b ∷ bs) h = eqb-true b 59 h

-- an entry that is read has its parts
entry_parts : (line : List ℕ) (entry : Entry) → entry_in line ≡ Some entry → SpellsEntry line entry
entry_parts line entry h =
    let a = bind_some (number_in (skip_blanks line)) (λ (s : ℕ × List ℕ). after_start s) entry (sym (entry_is line) ∙ h) in
    let b = bind_some (after_byte 58 a.0.1) (λ (rest : List ℕ). after_colon a.0.0 rest) entry a.2 in
    let c = bind_some (name_in b.0) (λ (n : List ℕ × List ℕ). after_name a.0.0 n) entry b.2 in
    let d = bind_some (duration_in c.0.1) (λ (d : Option ℕ × List ℕ). after_duration a.0.0 c.0.0 d) entry c.2 in
    let made : Entry = record { start = a.0.0; name = c.0.0; dur = d.0.0 } in
    let g = passed (is_end (skip_blanks d.0.1)) made entry d.2 in
    let f = skips line in
    let s = number_parts (skip_blanks line) a.0.0 a.0.1 a.1 in
    let k = byte_parts 58 a.0.1 b.0 b.1 in
    let n = name_parts b.0 c.0.0 c.0.1 c.1 in
    let u = duration_parts c.0.1 d.0.0 d.0.1 d.1 in
    let t = skips d.0.1 in
    subst (SpellsEntry line) {x = made} g.1 (record {
      front = f.blanks;
      start = s.text;
      behind_start = k.blanks;
      behind_colon = n.blanks;
      name = n.text;
      behind_name = u.blanks;
      duration = u.text;
      behind_duration = t.blanks;
      comment = skip_blanks d.0.1;
      whole = chain line f.blanks (skip_blanks line) s.text a.0.1 k.blanks b.0 n.blanks n.text c.0.1 u.blanks u.text d.0.1 t.blanks (skip_blanks d.0.1) f.whole s.whole k.whole n.whole u.whole t.whole;
      front_blank = f.are_blank;
      is_start = s.is_number;
      behind_start_blank = k.are_blank;
      behind_colon_blank = n.are_blank;
      is_name = n.is_name;
      behind_name_blank = u.are_blank;
      is_duration = u.is_duration;
      behind_duration_blank = t.are_blank;
      is_comment = end_comment (skip_blanks d.0.1) g.0;
    })

map_some : (o : Option Entry) (x : Option Entry) → option_map Some o ≡ Some x → (entry : Entry) × (o ≡ Some entry) × (Some entry ≡ x)
map_some None x h = absurd (let z : ⊥ = cc in z)
map_some (Some entry) x h = (entry, refl, let e : Some entry ≡ x = cc in e)

-- a line that says something is blank or an entry
line_by : (line : List ℕ) (x : Option Entry) → line_in line ≡ Some x → ((is_end (skip_blanks line) ≡ true) × (None ≡ x)) ⊎ ((entry : Entry) × (entry_in line ≡ Some entry) × (Some entry ≡ x))
unfolding line_in
line_by line x h =
    elim (chosen (is_end (skip_blanks line)) (Some None) (option_map Some (entry_in line)) (Some x) h) [
      | inl p ↦ let is = p.1 in inl (p.0, let e : None ≡ x = cc in e)
      | inr p ↦ inr (map_some (entry_in line) x p.1)
    ]

pub line_has_parts : (line : List ℕ) (entry : Entry) → line_in line ≡ Some (Some entry) → SpellsEntry line entry
line_has_parts line entry h =
    elim (line_by line (Some entry) h) [
      | inl p ↦ let no = p.1 in absurd (let z : ⊥ = cc in z)
      | inr p ↦ let is = p.2 in let same : p.0 ≡ entry = cc in entry_parts line entry (p.1 ∙ ap Some same)
    ]

pub line_is_silent : (line : List ℕ) → line_in line ≡ Some None → IsSilent line
line_is_silent line h =
    elim (line_by line None h) [
      | inl p ↦ let s = skips line in record { front = s.blanks; comment = skip_blanks line; whole = s.whole; front_blank = s.are_blank; is_comment = end_comment (skip_blanks line) p.0 }
      | inr p ↦ let no = p.2 in absurd (let z : ⊥ = cc in z)
    ]
