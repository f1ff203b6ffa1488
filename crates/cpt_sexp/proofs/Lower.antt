use Rattle.std.proofs.Common.{◌≡◌, ◌≢◌, ℕ, suc, ◌+◌, ◌<◌, ◌≤◌, ◌⊎◌, inl, inr, Bool, true, false, List, [], ◌∷◌, length, get_or, map, refl, sym, ap, ◌∙◌, subst, arith}
use Rattle.std.proofs.Math.ListN.{get_or-map}
use Rattle.std.proofs.lemmas.Bool.{cases_lt, cases_eq, eq-eqb, ne_eqb, le-leb}
use Rattle.std.proofs.lemmas.List.{length-map}
use Rattle.std.proofs.lemmas.Str.Ascii.{lowercase_is, lowercase-lowercase}
use Rattle.std.specs.Char.{to_ascii_lowercase}
use Rattle.cpt_sexp.specs.Bytes.{is_blank, is_letter, plain_from, plain}
use Rattle.cpt_sexp.specs.Grammar.{IsGap, IsWord, Spells, SpellsText}
use Rattle.cpt_sexp.specs.Trees.{Trees, none, word, group}

-- a number that is a small letter's, or the byte itself
lower_cases : (b : ℕ) → ((65 ≤ b) × (b ≤ 90) × (to_ascii_lowercase b ≡ b + 32)) ⊎ (to_ascii_lowercase b ≡ b)
lower_cases b =
    let is = lowercase_is b in
    elim (cases_lt b 65) [
      | inl low ↦ inr (is.1 low)
      | inr more ↦ elim (cases_lt 90 b) [
        | inl high ↦ inr (is.2 high)
        | inr less ↦ inl (more, less, is.0 (omega arith, omega arith))
      ]
    ]

no_blank : (b : ℕ) → 33 ≤ b → is_blank b ≡ false
no_blank b h = rw (ne_eqb b 32 (omega arith), ne_eqb b 9 (omega arith), ne_eqb b 13 (omega arith), ne_eqb b 10 (omega arith)) refl

a_letter : (b : ℕ) → 60 ≤ b → b ≤ 126 → is_letter b ≡ true
a_letter b low high = rw (le-leb 33 b (omega arith), le-leb b 126 high, ne_eqb b 40 (omega arith), ne_eqb b 41 (omega arith), ne_eqb b 59 (omega arith)) refl

blank_lower : (b : ℕ) → is_blank (to_ascii_lowercase b) ≡ is_blank b
blank_lower b =
    elim (lower_cases b) [
      | inl big ↦ ap is_blank big.2 ∙ no_blank (b + 32) (omega arith) ∙ sym (no_blank b (omega (arith, big.0)))
      | inr same ↦ ap is_blank same
    ]

letter_lower : (b : ℕ) → is_letter (to_ascii_lowercase b) ≡ is_letter b
letter_lower b =
    elim (lower_cases b) [
      | inl big ↦ ap is_letter big.2 ∙ a_letter (b + 32) (omega (arith, big.0)) (omega (arith, big.1)) ∙ sym (a_letter b (omega (arith, big.0)) (omega (arith, big.1)))
      | inr same ↦ ap is_letter same
    ]

kept : (b c : ℕ) → c < 65 → b ≡ c → to_ascii_lowercase b ≡ c
kept b c small e = (lowercase_is b).1 (omega (arith, e)) ∙ e

changed : (b c : ℕ) → c < 65 → b ≢ c → to_ascii_lowercase b ≢ c
changed b c small ne e =
    elim (lower_cases b) [
      | inl big ↦ absurd (omega (arith, big.0, big.2, e))
      | inr same ↦ ne (sym same ∙ e)
    ]

-- the small letters of plain bytes are the plain bytes of the small letters
plain-lower : (commented : Bool) (bs : List ℕ) → plain_from commented (map to_ascii_lowercase bs) ≡ map to_ascii_lowercase (plain_from commented bs)
plain-lower true [] = refl
plain-lower false [] = refl
plain-lower true (b ∷ bs) =
    elim (cases_eq b 10) [
      | inl e ↦ rw (eq-eqb b 10 e, eq-eqb (to_ascii_lowercase b) 10 (kept b 10 (omega arith) e)) (ap (λ xs. to_ascii_lowercase b ∷ xs) (plain-lower false bs))
      | inr ne ↦ rw (ne_eqb b 10 ne, ne_eqb (to_ascii_lowercase b) 10 (changed b 10 (omega arith) ne)) (ap (λ xs. 32 ∷ xs) (plain-lower true bs))
    ]
plain-lower false (b ∷ bs) =
    elim (cases_eq b 59) [
      | inl e ↦ rw (eq-eqb b 59 e, eq-eqb (to_ascii_lowercase b) 59 (kept b 59 (omega arith) e)) (ap (λ xs. 32 ∷ xs) (plain-lower true bs))
      | inr ne ↦ rw (ne_eqb b 59 ne, ne_eqb (to_ascii_lowercase b) 59 (changed b 59 (omega arith) ne)) (ap (λ xs. to_ascii_lowercase b ∷ xs) (plain-lower false bs))
    ]

-- bytes of the same kinds
pub record IsAlike (xs ys : List ℕ) : Type 0 where
  pub blank : (k : ℕ) → is_blank (get_or ys k 0) ≡ is_blank (get_or xs k 0)
  pub letter : (k : ℕ) → is_letter (get_or ys k 0) ≡ is_letter (get_or xs k 0)
  pub opens : (k : ℕ) → get_or xs k 0 ≡ 40 → get_or ys k 0 ≡ 40
  pub closes : (k : ℕ) → get_or xs k 0 ≡ 41 → get_or ys k 0 ≡ 41

gap_alike : (xs ys : List ℕ) (from to : ℕ) → IsAlike xs ys → IsGap xs from to → IsGap ys from to
gap_alike xs ys from to alike gap = record { ordered = gap.ordered; blanks = λ k low high. alike.blank k ∙ gap.blanks k low high }

word_alike : (xs ys : List ℕ) (from to : ℕ) → IsAlike xs ys → IsWord xs from to → IsWord ys from to
word_alike xs ys from to alike w = record { ordered = w.ordered; letters = λ k low high. alike.letter k ∙ w.letters k low high; longest = alike.letter to ∙ w.longest }

-- bytes of the same kinds spell the same
pub spells_alike : (xs ys : List ℕ) (depth from to : ℕ) (trees : Trees) → IsAlike xs ys → Spells xs depth from to trees → Spells ys depth from to trees
spells_alike xs ys depth from to none alike s = gap_alike xs ys from to alike s
spells_alike xs ys depth from to (word a b rest) alike s = (gap_alike xs ys from a alike s.0, word_alike xs ys a b alike s.1, spells_alike xs ys depth b to rest alike s.2)
spells_alike xs ys depth from to (group a b inside rest) alike s = (
  gap_alike xs ys from a alike s.0,
  s.1,
  alike.opens a s.2,
  (s.3.0, s.3.1, alike.closes s.3.0 s.3.2, spells_alike xs ys (suc depth) (suc a) s.3.0 inside alike s.3.3),
  spells_alike xs ys depth b to rest alike s.4,
)

get_lower : (xs : List ℕ) (k : ℕ) → get_or (map to_ascii_lowercase xs) k 0 ≡ to_ascii_lowercase (get_or xs k 0)
get_lower xs k = get_or-map to_ascii_lowercase xs k 0

alike_lower : (text : List ℕ) → IsAlike (plain text) (plain (map to_ascii_lowercase text))
alike_lower text =
    let at : (k : ℕ) → get_or (plain (map to_ascii_lowercase text)) k 0 ≡ to_ascii_lowercase (get_or (plain text) k 0) = λ k.
    ap (λ xs. get_or xs k 0) (plain-lower false text) ∙ get_lower (plain text) k in
    record {
      blank = λ k. ap is_blank (at k) ∙ blank_lower (get_or (plain text) k 0);
      letter = λ k. ap is_letter (at k) ∙ letter_lower (get_or (plain text) k 0);
      opens = λ k e. at k ∙ kept (get_or (plain text) k 0) 40 (omega arith) e;
      closes = λ k e. at k ∙ kept (get_or (plain text) k 0) 41 (omega arith) e;
    }

-- a text in lower case spells what the text spells
pub spells_lower : (text : List ℕ) (trees : Trees) → SpellsText text trees → SpellsText (map to_ascii_lowercase text) trees
spells_lower text trees s =
    subst (λ n. Spells (plain (map to_ascii_lowercase text)) 0 0 n trees) (sym (length-map text to_ascii_lowercase))
    (spells_alike (plain text) (plain (map to_ascii_lowercase text)) 0 0 (length text) trees (alike_lower text) s)

-- lower case is in lower case
pub lower-lower : (text : List ℕ) → map to_ascii_lowercase (map to_ascii_lowercase text) ≡ map to_ascii_lowercase text
lower-lower [] = refl
lower-lower (b ∷ bs) = ap (λ c. c ∷ map to_ascii_lowercase (map to_ascii_lowercase bs)) (lowercase-lowercase b) ∙ ap (λ xs. to_ascii_lowercase b ∷ xs) (lower-lower bs)
