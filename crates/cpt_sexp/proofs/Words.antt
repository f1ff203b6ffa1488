use Rattle.std.proofs.Common.{◌≡◌, ℕ, zero, suc, ◌+◌, ◌-◌, ◌<◌, ◌≤◌, ◌⊎◌, inl, inr, Bool, true, false, List, [], ◌∷◌, ◌++◌, length, get_or, take, drop, map, All, refl, sym, ap, ◌∙◌, subst, arith}
use Rattle.std.proofs.Math.ListN.{get_or-map}
use Rattle.std.proofs.lemmas.Bool.{cases_eq, eq-eqb, ne_eqb}
use Rattle.std.proofs.lemmas.List.{get_or-take, get_or-drop, length-take}
use Rattle.std.proofs.lemmas.List.Elements.{All-cons, All-nil, All-append, All-from_get_or}
use Rattle.std.specs.Char.{to_ascii_lowercase}
use Rattle.std.specs.List.{slice_range}
use Rattle.cpt_sexp.specs.declared.item.Item.TheVariants.{Word, Group}
use Rattle.cpt_sexp.specs.Bytes.{is_letter, plain_from, plain}
use Rattle.cpt_sexp.specs.Flat.{flat, IsItemOf, IsWordByte}
use Rattle.cpt_sexp.specs.Grammar.{IsWord, Spells, SpellsText}
use Rattle.cpt_sexp.specs.Trees.{Trees, none, word, group, count}
use Rattle.cpt_sexp.proofs.Context.{length-flat}
use Rattle.cpt_sexp.proofs.Spelling.{spells_ordered}

-- a byte of a text is plain, or a space stands for it
plain_or_blank : (commented : Bool) (text : List ℕ) (k : ℕ) → (get_or (plain_from commented text) k 0 ≡ get_or text k 0) ⊎ (get_or (plain_from commented text) k 0 ≡ 32)
plain_or_blank true [] k = inl refl
plain_or_blank false [] k = inl refl
plain_or_blank true (b ∷ bs) zero = elim (cases_eq b 10) [ inl e ↦ inl (rw (eq-eqb b 10 e) refl) | inr ne ↦ inr (rw (ne_eqb b 10 ne) refl) ]
plain_or_blank false (b ∷ bs) zero = elim (cases_eq b 59) [ inl e ↦ inr (rw (eq-eqb b 59 e) refl) | inr ne ↦ inl (rw (ne_eqb b 59 ne) refl) ]
plain_or_blank true (b ∷ bs) (suc k) = elim (cases_eq b 10) [ inl e ↦ rw (eq-eqb b 10 e) (plain_or_blank false bs k) | inr ne ↦ rw (ne_eqb b 10 ne) (plain_or_blank true bs k) ]
plain_or_blank false (b ∷ bs) (suc k) = elim (cases_eq b 59) [ inl e ↦ rw (eq-eqb b 59 e) (plain_or_blank true bs k) | inr ne ↦ rw (ne_eqb b 59 ne) (plain_or_blank false bs k) ]

letter_of_text : (text : List ℕ) (k : ℕ) → is_letter (get_or (plain text) k 0) ≡ true → is_letter (get_or text k 0) ≡ true
letter_of_text text k h =
    elim (plain_or_blank false text k) [
      | inl same ↦ subst (λ b. is_letter b ≡ true) same h
      | inr space ↦ let p : is_letter 32 ≡ true = subst (λ b. is_letter b ≡ true) space h in cc
    ]

lower_at : (text : List ℕ) (k : ℕ) → map to_ascii_lowercase text ≡ text → to_ascii_lowercase (get_or text k 0) ≡ get_or text k 0
lower_at text k e = sym (get_or-map to_ascii_lowercase text k 0) ∙ ap (λ xs. get_or xs k 0) e

-- the bytes of a word
pub word_bytes : (text : List ℕ) (from to : ℕ) → map to_ascii_lowercase text ≡ text → IsWord (plain text) from to → All IsWordByte (slice_range text from to)
word_bytes text from to lower w =
    All-from_get_or IsWordByte (take (to - from) (drop from text)) 0 (λ i lt.
    let small : i < to - from = omega (arith, lt, length-take (to - from) (drop from text)) in
    let e : get_or (take (to - from) (drop from text)) i 0 ≡ get_or text (from + i) 0 = get_or-take (to - from) (drop from text) i 0 small ∙ get_or-drop from text i 0 in
    subst IsWordByte (sym e) (record {
      letter = letter_of_text text (from + i) (w.letters (from + i) (omega arith) (omega (arith, small)));
      lower = lower_at text (from + i) lower;
    }))

items_of : (text : List ℕ) (items k depth low high : ℕ) (trees : Trees) → map to_ascii_lowercase text ≡ text → Spells (plain text) depth low high trees → high ≤ length text → k + count trees ≤ items → All (IsItemOf text items) (flat k trees)
items_of text items k depth low high none lower s in_text in_list = All-nil (IsItemOf text items)
items_of text items k depth low high (word a b rest) lower s in_text in_list =
    let forth = spells_ordered (plain text) depth b high rest s.2 in
    All-cons (IsItemOf text items) (Word a b) (flat (suc k) rest) (s.1.ordered, omega (arith, forth), word_bytes text a b lower s.1)
    (items_of text items (suc k) depth b high rest lower s.2 in_text (omega arith))
items_of text items k depth low high (group a b inside rest) lower s in_text in_list =
    let n = suc (k + count inside) in
    let close = s.3.0 in
    let e : suc close ≡ b = s.3.1 in
    let forth = spells_ordered (plain text) depth b high rest s.4 in
    let within = spells_ordered (plain text) (suc depth) (suc a) close inside s.3.3 in
    All-cons (IsItemOf text items) (Group a b n) (flat (suc k) inside ++ flat n rest) (omega (arith, e, within), omega (arith, forth), omega arith, omega arith)
    (All-append (IsItemOf text items) (flat (suc k) inside) (flat n rest)
    (items_of text items (suc k) (suc depth) (suc a) close inside lower s.3.3 (omega (arith, e, forth)) (omega arith))
    (items_of text items n depth b high rest lower s.4 in_text (omega arith)))

-- each item of a flat list is an item of the text
pub items_of-flat : (text : List ℕ) (trees : Trees) → map to_ascii_lowercase text ≡ text → SpellsText text trees → All (IsItemOf text (length (flat 0 trees))) (flat 0 trees)
items_of-flat text trees lower s = items_of text (length (flat 0 trees)) 0 0 0 (length text) trees lower s (omega arith) (omega (arith, length-flat 0 trees))
