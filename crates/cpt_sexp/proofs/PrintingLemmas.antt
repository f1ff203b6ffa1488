use Rattle.std.proofs.Common.{◌≡◌, ℕ, suc, ◌+◌, ◌-◌, ◌<◌, ◌≤◌, true, List, [], ◌∷◌, ◌++◌, length, get_or, take, drop, All, refl, sym, ap, ◌∙◌, subst, arith, append_assoc, length-append}
use Rattle.std.proofs.Math.Seq.{drop-append_seam, take-append_seam, get_or-append_seam}
use Rattle.std.proofs.Math.ListN.{get_or-append}
use Rattle.std.proofs.lemmas.Bool.{ne_eqb, le-leb}
use Rattle.std.proofs.lemmas.List.{append-nil, get_or-append-add}
use Rattle.std.proofs.lemmas.List.Elements.{All-head, All-tail}
use Rattle.std.specs.List.{slice_range}
use Rattle.cpt_sexp.specs.Bytes.{is_blank, is_letter, plain}
use Rattle.cpt_sexp.specs.Grammar.{IsGap, IsWord, Spells, SpellsText}
use Rattle.cpt_sexp.specs.Printing.{Nest, nothing, name, list, nest_of, printed, IsNameByte, IsPrintable}
use Rattle.cpt_sexp.specs.Trees.{Trees, none, word, group}
use Rattle.cpt_sexp.proofs.Spelling.{gap_none, gap_more, gap_before}

-- the trees of what is printed from a place on
abbrev pub placed : ℕ → Nest → Trees
placed at nothing = none
placed at (name bytes rest) = word at (at + length bytes) (placed (suc (at + length bytes)) rest)
placed at (list inside rest) =
    group at (suc (suc at + length (printed inside))) (placed (suc at) inside) (placed (suc (suc (suc at + length (printed inside)))) rest)

name_letter : (b : ℕ) → IsNameByte b → is_letter b ≡ true
name_letter b h =
    let low = h.low in
    rw (le-leb 33 b low, le-leb b 126 h.high, ne_eqb b 40 h.no_open, ne_eqb b 41 h.no_close, ne_eqb b 59 h.no_mark) refl

plain_name : (bytes more : List ℕ) → All IsNameByte bytes → plain (bytes ++ more) ≡ bytes ++ plain more
plain_name [] more h = refl
plain_name (b ∷ bs) more h =
    let first = All-head IsNameByte b bs h in
    rw (ne_eqb b 59 first.no_mark) (ap (λ xs. b ∷ xs) (plain_name bs more (All-tail IsNameByte b bs h)))

plain_printed : (depth : ℕ) (nest : Nest) (more : List ℕ) → IsPrintable depth nest → plain (printed nest ++ more) ≡ printed nest ++ plain more
plain_printed depth nothing more h = refl
plain_printed depth (name bytes rest) more h =
    ap plain (append_assoc bytes (32 ∷ printed rest) more) ∙ plain_name bytes (32 ∷ (printed rest ++ more)) h.1
    ∙ ap (λ xs. bytes ++ 32 ∷ xs) (plain_printed depth rest more h.2) ∙ sym (append_assoc bytes (32 ∷ printed rest) (plain more))
plain_printed depth (list inside rest) more h =
    ap (λ xs. 40 ∷ plain xs) (append_assoc (printed inside) (41 ∷ (32 ∷ printed rest)) more)
    ∙ ap (λ xs. 40 ∷ xs)
    (plain_printed (suc depth) inside (41 ∷ (32 ∷ (printed rest ++ more))) h.1
    ∙ ap (λ xs. printed inside ++ 41 ∷ (32 ∷ xs)) (plain_printed depth rest more h.2)
    ∙ sym (append_assoc (printed inside) (41 ∷ (32 ∷ printed rest)) (plain more)))

-- a byte after a front
byte_at : (text front more : List ℕ) (at b : ℕ) → text ≡ front ++ b ∷ more → length front ≡ at → get_or text at 0 ≡ b
byte_at text front more at b e n = ap (λ xs. get_or xs at 0) e ∙ ap (λ k. get_or (front ++ b ∷ more) k 0) (sym n) ∙ get_or-append_seam front b more 0

-- a byte of what stands after a front
byte_within : (text front bytes more : List ℕ) (at k : ℕ) → text ≡ front ++ (bytes ++ more) → length front ≡ at → at ≤ k → k < at + length bytes → get_or text k 0 ≡ get_or bytes (k - at) 0
byte_within text front bytes more at k e n low high =
    let same : k ≡ length front + (k - at) = omega (arith, n) in
    ap (λ xs. get_or xs k 0) e ∙ ap (λ j. get_or (front ++ (bytes ++ more)) j 0) same ∙ get_or-append-add front (bytes ++ more) (k - at) 0
    ∙ get_or-append bytes more 0 (k - at) (omega arith)

space_gap : (text : List ℕ) (at : ℕ) → get_or text at 0 ≡ 32 → IsGap text at (suc at)
space_gap text at e = gap_more text at at (gap_none text at) (ap is_blank e)

-- bytes with what is printed in them spell its trees there
printed_there : (text front more : List ℕ) (depth at : ℕ) (nest : Nest) → text ≡ front ++ (printed nest ++ more) → length front ≡ at → IsPrintable depth nest → Spells text depth at (at + length (printed nest)) (placed at nest)
printed_there text front more depth at nothing e n h = let same : at ≡ at + 0 = omega arith in subst (λ k. IsGap text at k) same (gap_none text at)
printed_there text front more depth at (name bytes rest) e n h =
    let to = at + length bytes in
    let after : text ≡ (front ++ bytes) ++ 32 ∷ (printed rest ++ more) =
    e ∙ ap (λ xs. front ++ xs) (append_assoc bytes (32 ∷ printed rest) more) ∙ sym (append_assoc front bytes (32 ∷ (printed rest ++ more))) in
    let long : length (front ++ bytes) ≡ to = length-append front bytes ∙ ap (λ k. k + length bytes) n in
    let space : get_or text to 0 ≡ 32 = byte_at text (front ++ bytes) (printed rest ++ more) to 32 after long in
    let one : List ℕ = 32 ∷ [] in
    let later : Spells text depth (suc to) (suc to + length (printed rest)) (placed (suc to) rest) =
    printed_there text ((front ++ bytes) ++ one) more depth (suc to) rest (after ∙ sym (append_assoc (front ++ bytes) one (printed rest ++ more)))
    (length-append (front ++ bytes) one ∙ omega (arith, long)) h.2 in
    let whole : suc to + length (printed rest) ≡ at + length (bytes ++ 32 ∷ printed rest) = omega (arith, length-append bytes (32 ∷ printed rest)) in
    let some = h.0 in
    let letters : IsWord text at to = record {
      ordered = omega arith;
      letters = λ k low high.
          let there = byte_within text front bytes (32 ∷ (printed rest ++ more)) at k (e ∙ ap (λ xs. front ++ xs) (append_assoc bytes (32 ∷ printed rest) more)) n low high in
          ap is_letter there ∙ name_letter (get_or bytes (k - at) 0) (h.1 (k - at) 0 (omega arith));
      longest = ap is_letter space;
    } in (
      gap_none text at,
      letters,
      subst (λ k. Spells text depth to k (placed (suc to) rest)) whole (gap_before text depth to (suc to) (suc to + length (printed rest)) (placed (suc to) rest) (space_gap text to space) later),
    )
printed_there text front more depth at (list inside rest) e n h =
    let opening : List ℕ = 40 ∷ [] in
    let closing : List ℕ = 41 ∷ (32 ∷ []) in
    let close = suc at + length (printed inside) in
    let tail : List ℕ = 41 ∷ (32 ∷ (printed rest ++ more)) in
    let shown : text ≡ front ++ 40 ∷ (printed inside ++ tail) = e ∙ ap (λ xs. front ++ 40 ∷ xs) (append_assoc (printed inside) (41 ∷ (32 ∷ printed rest)) more) in
    let inner : text ≡ (front ++ opening) ++ (printed inside ++ tail) = shown ∙ sym (append_assoc front opening (printed inside ++ tail)) in
    let one : length (front ++ opening) ≡ suc at = length-append front opening ∙ omega (arith, n) in
    let outer : text ≡ ((front ++ opening) ++ printed inside) ++ tail = inner ∙ sym (append_assoc (front ++ opening) (printed inside) tail) in
    let long : length ((front ++ opening) ++ printed inside) ≡ close = length-append (front ++ opening) (printed inside) ∙ ap (λ k. k + length (printed inside)) one in
    let after : text ≡ (((front ++ opening) ++ printed inside) ++ closing) ++ (printed rest ++ more) = outer ∙ sym (append_assoc ((front ++ opening) ++ printed inside) closing (printed rest ++ more)) in
    let longer : length (((front ++ opening) ++ printed inside) ++ closing) ≡ suc (suc close) = length-append ((front ++ opening) ++ printed inside) closing ∙ omega (arith, long) in
    let space : get_or text (suc close) 0 ≡ 32 =
    byte_at text (((front ++ opening) ++ printed inside) ++ 41 ∷ []) (printed rest ++ more) (suc close) 32
    (outer ∙ sym (append_assoc ((front ++ opening) ++ printed inside) (41 ∷ []) (32 ∷ (printed rest ++ more))))
    (length-append ((front ++ opening) ++ printed inside) (41 ∷ []) ∙ omega (arith, long)) in
    let later : Spells text depth (suc (suc close)) (suc (suc close) + length (printed rest)) (placed (suc (suc close)) rest) =
    printed_there text (((front ++ opening) ++ printed inside) ++ closing) more depth (suc (suc close)) rest after longer h.2 in
    let whole : suc (suc close) + length (printed rest) ≡ at + suc (length (printed inside ++ 41 ∷ (32 ∷ printed rest))) =
    omega (arith, length-append (printed inside) (41 ∷ (32 ∷ printed rest))) in (
      gap_none text at,
      h.0,
      byte_at text front (printed inside ++ tail) at 40 shown n,
      (
        close,
        refl,
        byte_at text ((front ++ opening) ++ printed inside) (32 ∷ (printed rest ++ more)) close 41 outer long,
        printed_there text (front ++ opening) tail (suc depth) (suc at) inside inner one h.1,
      ),
      subst (λ k. Spells text depth (suc close) k (placed (suc (suc close)) rest)) whole
          (gap_before text depth (suc close) (suc (suc close)) (suc (suc close) + length (printed rest)) (placed (suc (suc close)) rest) (space_gap text (suc close) space) later),
    )

range_there : (text front bytes more : List ℕ) (at : ℕ) → text ≡ front ++ (bytes ++ more) → length front ≡ at → slice_range text at (at + length bytes) ≡ bytes
range_there text front bytes more at e n =
    let wide : at + length bytes - at ≡ length bytes = omega arith in
    ap (λ k. take k (drop at text)) wide
    ∙ ap (λ xs. take (length bytes) (drop at xs)) e
    ∙ ap (λ k. take (length bytes) (drop k (front ++ (bytes ++ more)))) (sym n)
    ∙ ap (take (length bytes)) (drop-append_seam front (bytes ++ more))
    ∙ take-append_seam bytes more

-- the trees of what is printed say it
says_there : (text front more : List ℕ) (at : ℕ) (nest : Nest) → text ≡ front ++ (printed nest ++ more) → length front ≡ at → nest_of text (placed at nest) ≡ nest
says_there text front more at nothing e n = refl
says_there text front more at (name bytes rest) e n =
    let to = at + length bytes in
    let one : List ℕ = 32 ∷ [] in
    let shown : text ≡ front ++ (bytes ++ 32 ∷ (printed rest ++ more)) = e ∙ ap (λ xs. front ++ xs) (append_assoc bytes (32 ∷ printed rest) more) in
    let after : text ≡ ((front ++ bytes) ++ one) ++ (printed rest ++ more) =
    shown ∙ sym (append_assoc front bytes (32 ∷ (printed rest ++ more))) ∙ sym (append_assoc (front ++ bytes) one (printed rest ++ more)) in
    let long : length ((front ++ bytes) ++ one) ≡ suc to = length-append (front ++ bytes) one ∙ omega (arith, length-append front bytes, n) in
    ap (λ bs. name bs (nest_of text (placed (suc to) rest))) (range_there text front bytes (32 ∷ (printed rest ++ more)) at shown n)
    ∙ ap (name bytes) (says_there text ((front ++ bytes) ++ one) more (suc to) rest after long)
says_there text front more at (list inside rest) e n =
    let opening : List ℕ = 40 ∷ [] in
    let closing : List ℕ = 41 ∷ (32 ∷ []) in
    let close = suc at + length (printed inside) in
    let tail : List ℕ = 41 ∷ (32 ∷ (printed rest ++ more)) in
    let inner : text ≡ (front ++ opening) ++ (printed inside ++ tail) =
    e ∙ ap (λ xs. front ++ 40 ∷ xs) (append_assoc (printed inside) (41 ∷ (32 ∷ printed rest)) more) ∙ sym (append_assoc front opening (printed inside ++ tail)) in
    let one : length (front ++ opening) ≡ suc at = length-append front opening ∙ omega (arith, n) in
    let after : text ≡ (((front ++ opening) ++ printed inside) ++ closing) ++ (printed rest ++ more) =
    inner ∙ sym (append_assoc (front ++ opening) (printed inside) tail) ∙ sym (append_assoc ((front ++ opening) ++ printed inside) closing (printed rest ++ more)) in
    let longer : length (((front ++ opening) ++ printed inside) ++ closing) ≡ suc (suc close) =
    length-append ((front ++ opening) ++ printed inside) closing ∙ omega (arith, length-append (front ++ opening) (printed inside), one) in
    ap (λ i. list i (nest_of text (placed (suc (suc close)) rest))) (says_there text (front ++ opening) tail (suc at) inside inner one)
    ∙ ap (list inside) (says_there text (((front ++ opening) ++ printed inside) ++ closing) more (suc (suc close)) rest after longer)

-- what is printed is spelled, with trees that say it
pub printed_spelled : (nest : Nest) → IsPrintable 0 nest → (trees : Trees) × SpellsText (printed nest) trees × (nest_of (printed nest) trees ≡ nest)
printed_spelled nest h =
    let text = printed nest in
    let alone : text ≡ [] ++ (text ++ []) = sym (append-nil text) in
    let unmarked : plain text ≡ text = ap plain (sym (append-nil text)) ∙ plain_printed 0 nest [] h ∙ append-nil text in (
      placed 0 nest,
      subst (λ bs. Spells bs 0 0 (length text) (placed 0 nest)) (sym unmarked)
          (let e : 0 + length text ≡ length text = omega arith in subst (λ k. Spells text 0 0 k (placed 0 nest)) e (printed_there text [] [] 0 0 nest alone refl h)),
      says_there text [] [] 0 nest alone refl,
    )
