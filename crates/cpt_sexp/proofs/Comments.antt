use Rattle.std.proofs.Common.{◌≡◌, ◌≢◌, ℕ, zero, suc, ◌<◌, ◌≤◌, inl, inr, Bool, true, false, List, [], ◌∷◌, length, get_or, drop, refl, sym, ap, subst, ◌∙◌, arith, drop-cons}
use Rattle.std.proofs.lemmas.Bool.{cases_eq, eq-eqb, ne_eqb}
use Rattle.std.proofs.lemmas.List.{get_or_past}
use Rattle.cpt_sexp.specs.Bytes.{is_letter, plain_from, plain}
use Rattle.cpt_sexp.specs.Progress.{IsOutside}

head_of : (xs : List ℕ) (i b : ℕ) (ys : List ℕ) → drop i xs ≡ b ∷ ys → (get_or xs i 0 ≡ b) × (drop (suc i) xs ≡ ys)
head_of [] zero b ys h = cc
head_of [] (suc i) b ys h = cc
head_of (x ∷ xs) zero b ys h = (cc, cc)
head_of (x ∷ xs) (suc i) b ys h = head_of xs i b ys h

-- the plain bytes go on at a place as a text in this state
abbrev pub GoesOn : Bool → List ℕ → ℕ → Type 0
GoesOn commented text place = drop place (plain text) ≡ plain_from commented (drop place text)

opened_up : (commented : Bool) (text : List ℕ) (i : ℕ) → i < length text → GoesOn commented text i → drop i (plain text) ≡ plain_from commented (get_or text i 0 ∷ drop (suc i) text)
opened_up commented text i lt h = h ∙ ap (plain_from commented) (drop-cons text i 0 lt)

plain_byte : (b : ℕ) (bs : List ℕ) → b ≢ 59 → plain_from false (b ∷ bs) ≡ b ∷ plain_from false bs
plain_byte b bs ne = rw (ne_eqb b 59 ne) refl

plain_mark : (b : ℕ) (bs : List ℕ) → b ≡ 59 → plain_from false (b ∷ bs) ≡ 32 ∷ plain_from true bs
plain_mark b bs e = rw (eq-eqb b 59 e) refl

comment_byte : (b : ℕ) (bs : List ℕ) → b ≢ 10 → plain_from true (b ∷ bs) ≡ 32 ∷ plain_from true bs
comment_byte b bs ne = rw (ne_eqb b 10 ne) refl

comment_last : (b : ℕ) (bs : List ℕ) → b ≡ 10 → plain_from true (b ∷ bs) ≡ plain_from false (b ∷ bs)
comment_last b bs e = subst (λ c. plain_from true (c ∷ bs) ≡ plain_from false (c ∷ bs)) (sym e) refl

-- over a byte that begins no comment
pub over_byte : (text : List ℕ) (i : ℕ) → i < length text → get_or text i 0 ≢ 59 → IsOutside text i → (get_or (plain text) i 0 ≡ get_or text i 0) × IsOutside text (suc i)
over_byte text i lt ne h =
    head_of (plain text) i (get_or text i 0) (plain_from false (drop (suc i) text)) (opened_up false text i lt h ∙ plain_byte (get_or text i 0) (drop (suc i) text) ne)

-- over the semicolon of a comment
pub over_mark : (text : List ℕ) (i : ℕ) → i < length text → get_or text i 0 ≡ 59 → IsOutside text i → (get_or (plain text) i 0 ≡ 32) × GoesOn true text (suc i)
over_mark text i lt e h =
    head_of (plain text) i 32 (plain_from true (drop (suc i) text)) (opened_up false text i lt h ∙ plain_mark (get_or text i 0) (drop (suc i) text) e)

-- over a byte of a comment
pub over_comment : (text : List ℕ) (i : ℕ) → i < length text → get_or text i 0 ≢ 10 → GoesOn true text i → (get_or (plain text) i 0 ≡ 32) × GoesOn true text (suc i)
over_comment text i lt ne h =
    head_of (plain text) i 32 (plain_from true (drop (suc i) text)) (opened_up true text i lt h ∙ comment_byte (get_or text i 0) (drop (suc i) text) ne)

-- at its line feed a comment is over
pub at_line_feed : (text : List ℕ) (i : ℕ) → i < length text → get_or text i 0 ≡ 10 → GoesOn true text i → IsOutside text i
at_line_feed text i lt e h =
    opened_up true text i lt h ∙ comment_last (get_or text i 0) (drop (suc i) text) e ∙ sym (ap (plain_from false) (drop-cons text i 0 lt))

plain_nothing : (commented : Bool) → plain_from commented [] ≡ []
plain_nothing true = refl
plain_nothing false = refl

nothing_left : (xs : List ℕ) (i : ℕ) → length xs ≤ i → drop i xs ≡ []
nothing_left [] zero h = refl
nothing_left [] (suc i) h = refl
nothing_left (x ∷ xs) zero h = absurd (omega arith)
nothing_left (x ∷ xs) (suc i) h = nothing_left xs i (omega arith)

-- at the end of the text a comment is over
pub at_end : (text : List ℕ) (i : ℕ) → length text ≤ i → GoesOn true text i → IsOutside text i
at_end text i le h =
    h ∙ ap (plain_from true) (nothing_left text i le) ∙ sym (ap (plain_from false) (nothing_left text i le))

length-plain_from : (commented : Bool) (text : List ℕ) → length (plain_from commented text) ≡ length text
length-plain_from true [] = refl
length-plain_from false [] = refl
length-plain_from true (b ∷ bs) =
    elim (cases_eq b 10) [
      | inl e ↦ ap length (comment_last b bs e) ∙ ap length (plain_byte b bs (λ other. absurd (omega (arith, e, other)))) ∙ ap suc (length-plain_from false bs)
      | inr ne ↦ ap length (comment_byte b bs ne) ∙ ap suc (length-plain_from true bs)
    ]
length-plain_from false (b ∷ bs) =
    elim (cases_eq b 59) [
      | inl e ↦ ap length (plain_mark b bs e) ∙ ap suc (length-plain_from true bs)
      | inr ne ↦ ap length (plain_byte b bs ne) ∙ ap suc (length-plain_from false bs)
    ]

-- the plain bytes are as many as those of the text
pub length-plain : (text : List ℕ) → length (plain text) ≡ length text
length-plain text = length-plain_from false text

letter_is : (b c : ℕ) → is_letter b ≡ false → c ≡ b → is_letter c ≡ false
letter_is b c h e = subst (λ x. is_letter x ≡ false) (sym e) h

-- where no letter stands in the text, none stands in its plain bytes
pub no_letter : (text : List ℕ) (i : ℕ) → i < length text → IsOutside text i → is_letter (get_or text i 0) ≡ false → is_letter (get_or (plain text) i 0) ≡ false
no_letter text i lt h not_letter =
    elim (cases_eq (get_or text i 0) 59) [
      | inl e ↦ letter_is 32 (get_or (plain text) i 0) refl (over_mark text i lt e h).0
      | inr ne ↦ letter_is (get_or text i 0) (get_or (plain text) i 0) not_letter (over_byte text i lt ne h).0
    ]

-- past the end no letter stands
pub no_letter_past : (text : List ℕ) (i : ℕ) → length text ≤ i → is_letter (get_or (plain text) i 0) ≡ false
no_letter_past text i le = letter_is 0 (get_or (plain text) i 0) refl (get_or_past (plain text) i 0 (omega (arith, length-plain text)))

letter_no_mark : (b : ℕ) → is_letter b ≡ true → b ≢ 59
letter_no_mark b h e = let p : is_letter 59 ≡ true = subst (λ x. is_letter x ≡ true) e h in cc

-- over a letter
pub over_letter : (text : List ℕ) (i : ℕ) → i < length text → is_letter (get_or text i 0) ≡ true → IsOutside text i → (is_letter (get_or (plain text) i 0) ≡ true) × IsOutside text (suc i)
over_letter text i lt letter h =
    let over = over_byte text i lt (letter_no_mark (get_or text i 0) letter) h in
    (subst (λ b. is_letter b ≡ true) (sym over.0) letter, over.1)
