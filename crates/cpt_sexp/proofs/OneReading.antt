use Rattle.std.proofs.Common.{◌≡◌, ◌≢◌, ℕ, suc, ◌≤◌, inl, inr, ◌==◌, ◌||◌, true, false, List, length, get_or, refl, sym, ap, ◌∙◌, subst, arith}
use Rattle.std.proofs.lemmas.Bool.{cases_order, cases_Bool, or_cases, eqb-true}
use Rattle.std.proofs.lemmas.List.{get_or_past}
use Rattle.cpt_sexp.specs.declared.item.SexpError.{SexpError}
use Rattle.cpt_sexp.specs.declared.item.SexpError.TheVariants.{BadByte, Unopened, Unclosed, Deep, Memory}
use Rattle.cpt_sexp.specs.Bytes.{is_blank, is_letter, plain}
use Rattle.cpt_sexp.specs.Faults.{IsFault}
use Rattle.cpt_sexp.specs.Grammar.{IsGap, IsWord, Spells, SpellsText}
use Rattle.cpt_sexp.specs.Trees.{Trees, none, word, group}
use Rattle.cpt_sexp.proofs.Comments.{length-plain}
use Rattle.cpt_sexp.proofs.Depth.{IsQuiet, spells_quiet, within_text}

-- no item goes on at a place
pub record IsEnd (bytes : List ℕ) (at : ℕ) : Type 0 where
  pub no_blank : is_blank (get_or bytes at 0) ≡ false
  pub no_letter : is_letter (get_or bytes at 0) ≡ false
  pub no_open : get_or bytes at 0 ≢ 40

end_at : (bytes : List ℕ) (at b : ℕ) → is_blank b ≡ false → is_letter b ≡ false → b ≢ 40 → get_or bytes at 0 ≡ b → IsEnd bytes at
end_at bytes at b blank letter ne e = record {
  no_blank = ap is_blank e ∙ blank;
  no_letter = ap is_letter e ∙ letter;
  no_open = λ opens. ne (sym e ∙ opens);
}

closed_end : (bytes : List ℕ) (at : ℕ) → get_or bytes at 0 ≡ 41 → IsEnd bytes at
closed_end bytes at e = end_at bytes at 41 refl refl (λ h. absurd (omega (arith, h))) e

text_end : (bytes : List ℕ) (at : ℕ) → length bytes ≤ at → IsEnd bytes at
text_end bytes at le = end_at bytes at 0 refl refl (λ h. absurd (omega (arith, h))) (get_or_past bytes at 0 le)

letter_at : (b c : ℕ) → is_letter b ≡ true → b ≡ c → is_letter c ≡ true
letter_at b c h e = subst (λ x. is_letter x ≡ true) e h

blank_letter : (b : ℕ) → is_blank b ≡ true → is_letter b ≡ true → ⊥
blank_letter b blank letter =
    elim (or_cases ((b == 32) || (b == 9) || (b == 13)) (b == 10) blank) [
      | inl some ↦ elim (or_cases ((b == 32) || (b == 9)) (b == 13) some) [
        | inl more ↦ elim (or_cases (b == 32) (b == 9) more) [
          | inl e ↦ let p : is_letter 32 ≡ true = letter_at b 32 letter (eqb-true b 32 e) in cc
          | inr e ↦ let p : is_letter 9 ≡ true = letter_at b 9 letter (eqb-true b 9 e) in cc
        ]
        | inr e ↦ let p : is_letter 13 ≡ true = letter_at b 13 letter (eqb-true b 13 e) in cc
      ]
      | inr e ↦ let p : is_letter 10 ≡ true = letter_at b 10 letter (eqb-true b 10 e) in cc
    ]

letter_not_blank : (b : ℕ) → is_letter b ≡ true → is_blank b ≡ false
letter_not_blank b h =
    elim (cases_Bool (is_blank b)) [
      | inl e ↦ absurd (blank_letter b e h)
      | inr e ↦ e
    ]

open_not_blank : (bytes : List ℕ) (at : ℕ) → get_or bytes at 0 ≡ 40 → is_blank (get_or bytes at 0) ≡ false
open_not_blank bytes at e = ap is_blank e

gap_same : (bytes : List ℕ) (from a b : ℕ) → IsGap bytes from a → IsGap bytes from b → is_blank (get_or bytes a 0) ≡ false → is_blank (get_or bytes b 0) ≡ false → a ≡ b
gap_same bytes from a b first second not_a not_b =
    elim (cases_order a b) [
      | inl e ↦ e
      | inr (inl lt) ↦ let p = second.blanks a first.ordered lt in cc
      | inr (inr lt) ↦ let p = first.blanks b second.ordered lt in cc
    ]

word_same : (bytes : List ℕ) (from a b : ℕ) → IsWord bytes from a → IsWord bytes from b → a ≡ b
word_same bytes from a b first second =
    let l = first.ordered in
    let r = second.ordered in
    elim (cases_order a b) [
      | inl e ↦ e
      | inr (inl lt) ↦ let p = second.letters a (omega (arith, l)) lt in let q = first.longest in cc
      | inr (inr lt) ↦ let p = first.letters b (omega (arith, r)) lt in let q = second.longest in cc
    ]

-- two readings of bytes end at one place, and are one
pub same_reading : (bytes : List ℕ) (depth from a b : ℕ) (trees others : Trees) → Spells bytes depth from a trees → Spells bytes depth from b others → IsEnd bytes a → IsEnd bytes b → (a ≡ b) × (trees ≡ others)
same_reading bytes depth from a b none none s t ends other_ends = (gap_same bytes from a b s t ends.no_blank other_ends.no_blank, refl)
same_reading bytes depth from a b none (word c d rest) s t ends other_ends =
    let first = t.1.letters c (omega arith) t.1.ordered in
    let same = gap_same bytes from a c s t.0 ends.no_blank (letter_not_blank (get_or bytes c 0) first) in
    let here : is_letter (get_or bytes a 0) ≡ true = subst (λ k. is_letter (get_or bytes k 0) ≡ true) (sym same) first in
    let none_here = ends.no_letter in cc
same_reading bytes depth from a b none (group c d inside rest) s t ends other_ends =
    let same = gap_same bytes from a c s t.0 ends.no_blank (open_not_blank bytes c t.2) in
    absurd (ends.no_open (subst (λ k. get_or bytes k 0 ≡ 40) (sym same) t.2))
same_reading bytes depth from a b (word c d rest) none s t ends other_ends =
    let first = s.1.letters c (omega arith) s.1.ordered in
    let same = gap_same bytes from b c t s.0 other_ends.no_blank (letter_not_blank (get_or bytes c 0) first) in
    let here : is_letter (get_or bytes b 0) ≡ true = subst (λ k. is_letter (get_or bytes k 0) ≡ true) (sym same) first in
    let none_here = other_ends.no_letter in cc
same_reading bytes depth from a b (group c d inside rest) none s t ends other_ends =
    let same = gap_same bytes from b c t s.0 other_ends.no_blank (open_not_blank bytes c s.2) in
    absurd (other_ends.no_open (subst (λ k. get_or bytes k 0 ≡ 40) (sym same) s.2))
same_reading bytes depth from a b (word c d rest) (group e f inside others) s t ends other_ends =
    let first = s.1.letters c (omega arith) s.1.ordered in
    let same = gap_same bytes from c e s.0 t.0 (letter_not_blank (get_or bytes c 0) first) (open_not_blank bytes e t.2) in
    let p : is_letter 40 ≡ true = letter_at (get_or bytes c 0) 40 first (ap (λ k. get_or bytes k 0) same ∙ t.2) in cc
same_reading bytes depth from a b (group e f inside others) (word c d rest) s t ends other_ends =
    let first = t.1.letters c (omega arith) t.1.ordered in
    let same = gap_same bytes from c e t.0 s.0 (letter_not_blank (get_or bytes c 0) first) (open_not_blank bytes e s.2) in
    let p : is_letter 40 ≡ true = letter_at (get_or bytes c 0) 40 first (ap (λ k. get_or bytes k 0) same ∙ s.2) in cc
same_reading bytes depth from a b (word c d rest) (word e f others) s t ends other_ends =
    let first = s.1.letters c (omega arith) s.1.ordered in
    let other_first = t.1.letters e (omega arith) t.1.ordered in
    let begin = gap_same bytes from c e s.0 t.0 (letter_not_blank (get_or bytes c 0) first) (letter_not_blank (get_or bytes e 0) other_first) in
    let last = word_same bytes c d f s.1 (subst (λ k. IsWord bytes k f) (sym begin) t.1) in
    let later = same_reading bytes depth d a b rest others s.2 (subst (λ k. Spells bytes depth k b others) (sym last) t.2) ends other_ends in
    (later.0, ap (λ k. word k d rest) begin ∙ ap (λ k. word e k rest) last ∙ ap (word e f) later.1)
same_reading bytes depth from a b (group c d inside rest) (group e f within others) s t ends other_ends =
    let begin = gap_same bytes from c e s.0 t.0 (open_not_blank bytes c s.2) (open_not_blank bytes e t.2) in
    let inner = same_reading bytes (suc depth) (suc c) s.3.0 t.3.0 inside within s.3.3 (subst (λ k. Spells bytes (suc depth) (suc k) t.3.0 within) (sym begin) t.3.3)
    (closed_end bytes s.3.0 s.3.2) (closed_end bytes t.3.0 t.3.2) in
    let last : d ≡ f = sym s.3.1 ∙ ap suc inner.0 ∙ t.3.1 in
    let later = same_reading bytes depth d a b rest others s.4 (subst (λ k. Spells bytes depth k b others) (sym last) t.4) ends other_ends in
    (later.0, ap (λ k. group k d inside rest) begin ∙ ap (λ k. group e k inside rest) last ∙ ap (λ i. group e f i rest) inner.1 ∙ ap (group e f within) later.1)

-- two readings of one text are one
pub one_reading : (text : List ℕ) (trees others : Trees) → SpellsText text trees → SpellsText text others → trees ≡ others
one_reading text trees others s t =
    let ended : IsEnd (plain text) (length text) = text_end (plain text) (length text) (omega (arith, length-plain text)) in
    (same_reading (plain text) 0 0 (length text) (length text) trees others s t ended ended).1

quiet_text : (text : List ℕ) (trees : Trees) → SpellsText text trees → IsQuiet (plain text) 0 0 (length text)
quiet_text text trees s = spells_quiet (plain text) 0 0 (length text) trees refl s

-- no fault stands in a text that spells trees
pub no_fault : (text : List ℕ) (trees : Trees) (fault : SexpError) → SpellsText text trees → IsFault (plain text) fault → ⊥
no_fault text trees (BadByte k) s h =
    ((quiet_text text trees s).sound k (omega arith) (omega (arith, h.0, length-plain text))).not_bad h.1 h.2
no_fault text trees (Unopened k) s h =
    let lt = within_text (plain text) k (λ e. absurd (omega (arith, e, h.0))) in
    ((quiet_text text trees s).sound k (omega arith) (omega (arith, lt, length-plain text))).not_unopened h.0 h.1
no_fault text trees (Deep k) s h =
    let lt = within_text (plain text) k (λ e. absurd (omega (arith, e, h.0))) in
    ((quiet_text text trees s).sound k (omega arith) (omega (arith, lt, length-plain text))).not_deep h.0 h.1
no_fault text trees (Unclosed k) s h =
    let opens = h.0.opens in
    let lt = within_text (plain text) k (λ e. absurd (omega (arith, e, opens))) in
    let more = h.0.open_after (length text) (omega (arith, lt, length-plain text)) (omega (arith, length-plain text)) in
    let back = (quiet_text text trees s).back in
    omega (arith, more, back)
no_fault text trees Memory s h = h
