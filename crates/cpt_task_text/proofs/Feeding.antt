-- A text and its lines.
use Rattle.std.proofs.Common.{◌≡◌, ℕ, suc, ◌^◌, ◌<◌, Bool, true, false, cond, eqb, List, [], ◌∷◌, ◌++◌, All, refl, sym, ap, ◌∙◌, append_assoc, arith}
use Rattle.std.specs.Char.{is_ascii_digit}
use Rattle.std.specs.Fmt.{decimal}
use Rattle.std.specs.List.{flat_map}
use Rattle.std.specs.Str.{all_ascii_digits}
use Rattle.std.proofs.lemmas.Bool.{and_parts, eqb-true, ne_eqb, false≢true}
use Rattle.cpt_line.specs.Lines.{glue, split}
use Rattle.cpt_task_text.specs.Reading.{Rest}
use Rattle.cpt_task_text.specs.Spelling.{ended, spaced}
use Rattle.cpt_task_text.proofs.Naming.{NoFeed, NoFeed-append}
use Rattle.cpt_task_text.proofs.Numerals.{decimal_digits}

-- ---- the lines of a text make the text

-- the text of lines and of what follows the last line feed
abbrev pub text_of : Rest → List ℕ
text_of rest = flat_map ended rest.0 ++ rest.1

text_glued : (b : ℕ) (rest : Rest) → text_of (glue (b ∷ []) rest) ≡ b ∷ text_of rest
text_glued b ([], tail) = refl
text_glued b (line ∷ lines, tail) = refl

text_by : (b : ℕ) (bs : List ℕ) (feed : Bool) → eqb b 10 ≡ feed → text_of (split bs) ≡ bs → text_of (cond feed ([] ∷ (split bs).0, (split bs).1) (glue (b ∷ []) (split bs))) ≡ b ∷ bs
text_by b bs true e h = ap (λ (r : List ℕ). 10 ∷ r) h ∙ ap (λ (x : ℕ). x ∷ bs) (sym (eqb-true b 10 e))
text_by b bs false e h = text_glued b (split bs) ∙ ap (λ (r : List ℕ). b ∷ r) h

pub text_of_split : (text : List ℕ) → text_of (split text) ≡ text
text_of_split [] = refl
text_of_split (b ∷ bs) = text_by b bs (eqb b 10) refl (text_of_split bs)

-- ---- lines that are joined are split again

split_line : (line rest : List ℕ) → NoFeed line → split (line ++ 10 ∷ rest) ≡ (line ∷ (split rest).0, (split rest).1)
split_line [] rest h = refl
split_line (b ∷ line) rest h = rw h.0 (ap (glue (b ∷ [])) (split_line line rest h.1))

-- no line has a line feed
abbrev pub Feedless : List (List ℕ) → Type 0
Feedless [] = Unit {0}
Feedless (line ∷ lines) = NoFeed line × Feedless lines

pub Feedless-append : (xs ys : List (List ℕ)) → Feedless xs → Feedless ys → Feedless (xs ++ ys)
Feedless-append [] ys h k = k
Feedless-append (x ∷ xs) ys h k = (h.0, Feedless-append xs ys h.1 k)

pub split_joined : (lines : List (List ℕ)) → Feedless lines → split (flat_map ended lines) ≡ (lines, [])
split_joined [] h = refl
split_joined (line ∷ lines) h =
    ap split (append_assoc line (10 ∷ []) (flat_map ended lines)) ∙ split_line line (flat_map ended lines) h.0 ∙ ap (λ (r : Rest). (line ∷ r.0, r.1)) (split_joined lines h.1)

-- ---- digits have no line feed

digit_no_feed : (b : ℕ) → is_ascii_digit b ≡ true → eqb b 10 ≡ false
digit_no_feed b h = ne_eqb b 10 (λ z. false≢true (sym (ap is_ascii_digit z) ∙ h))

NoFeed-digits : (ds : List ℕ) → all_ascii_digits ds ≡ true → NoFeed ds
NoFeed-digits [] h = tt
NoFeed-digits (d ∷ ds) h = let p = and_parts (is_ascii_digit d) (all_ascii_digits ds) h in (digit_no_feed d p.0, NoFeed-digits ds p.1)

pub NoFeed-decimal : (n : ℕ) → n < 2 ^ 64 → NoFeed (decimal n)
NoFeed-decimal n lt = NoFeed-digits (decimal n) (decimal_digits n lt)

pub NoFeed-spaced : (count : ℕ) (ids : List ℕ) → count < 2 ^ 64 → All (λ id. id < count) ids → NoFeed (spaced ids)
NoFeed-spaced count [] few below = tt
NoFeed-spaced count (id ∷ ids) few below =
    let low : id < count = below 0 0 (omega arith) in
    (refl, NoFeed-append (decimal id) (spaced ids) (NoFeed-decimal id (omega (arith, low, few))) (NoFeed-spaced count ids few (λ i d lt. below (suc i) d (omega (arith, lt)))))
