use Rattle.std.proofs.Common.{◌≡◌, ℕ, zero, suc, ◌-◌, ◌<◌, ◌≤◌, ◌==◌, ◌≢◌, ◌&&◌, not, inl, inr, true, false, List, [], ◌∷◌, ◌++◌, length, get_or, take, refl, sym, ap, ◌∙◌, subst, arith}
use Rattle.std.proofs.Math.Seq.{take-suc}
use Rattle.std.proofs.lemmas.Bool.{cases_lt, cases_eq, eq-eqb, ne_eqb, eqb-true, and_parts}
use Rattle.std.proofs.lemmas.List.{get_or_past}
use Rattle.cpt_sexp.specs.Progress.{empties}
use Rattle.cpt_sexp.specs.Bytes.{is_blank, is_graphic, is_letter}
use Rattle.cpt_sexp.specs.Grammar.{Spells}
use Rattle.cpt_sexp.specs.Trees.{Trees, none, word, group}
use Rattle.cpt_sexp.proofs.Spelling.{spells_ordered}
use Rattle.cpt_sexp.specs.Faults.{depth_over, depth_after, depth_at}

-- where no group is open none is open at some place
pub empties_at_once : (depth : ℕ) (bs : List ℕ) → depth ≡ 0 → empties depth bs ≡ true
empties_at_once depth [] e = eq-eqb depth 0 e
empties_at_once depth (b ∷ bs) e = rw (eq-eqb depth 0 e) refl

pub depth_after-append : (depth : ℕ) (xs ys : List ℕ) → depth_after depth (xs ++ ys) ≡ depth_after (depth_after depth xs) ys
depth_after-append depth [] ys = refl
depth_after-append depth (x ∷ xs) ys = depth_after-append (depth_over depth x) xs ys

-- the depth after one more byte
pub depth_more : (bytes : List ℕ) (i : ℕ) → i < length bytes → depth_at bytes (suc i) ≡ depth_over (depth_at bytes i) (get_or bytes i 0)
depth_more bytes i lt = ap (depth_after 0) (take-suc bytes i 0 lt) ∙ depth_after-append 0 (take i bytes) (get_or bytes i 0 ∷ [])

opens_over : (depth b : ℕ) → b ≡ 40 → depth_over depth b ≡ suc depth
opens_over depth b e = rw (eq-eqb b 40 e) refl

pub closes_over : (depth b : ℕ) → b ≡ 41 → depth_over depth b ≡ depth - 1
closes_over depth b e = subst (λ c. depth_over depth c ≡ depth - 1) (sym e) refl

pub stays_over : (depth b : ℕ) → b ≢ 40 → b ≢ 41 → depth_over depth b ≡ depth
stays_over depth b no_open no_close = rw (ne_eqb b 40 no_open, ne_eqb b 41 no_close) refl

-- a byte that is not 0 is in the text
pub within_text : (bytes : List ℕ) (k : ℕ) → get_or bytes k 0 ≢ 0 → k < length bytes
within_text bytes k ne = elim (cases_lt k (length bytes)) [ inl lt ↦ lt | inr past ↦ absurd (ne (get_or_past bytes k 0 past)) ]

-- after an opening parenthesis one more group is open
pub depth_opens : (bytes : List ℕ) (k : ℕ) → get_or bytes k 0 ≡ 40 → depth_at bytes (suc k) ≡ suc (depth_at bytes k)
depth_opens bytes k e = depth_more bytes k (within_text bytes k (λ zero_byte. absurd (omega (arith, e, zero_byte)))) ∙ opens_over (depth_at bytes k) (get_or bytes k 0) e

-- after a closing parenthesis one group fewer is open
pub depth_closes : (bytes : List ℕ) (k : ℕ) → get_or bytes k 0 ≡ 41 → depth_at bytes (suc k) ≡ depth_at bytes k - 1
depth_closes bytes k e = depth_more bytes k (within_text bytes k (λ zero_byte. absurd (omega (arith, e, zero_byte)))) ∙ closes_over (depth_at bytes k) (get_or bytes k 0) e

-- no fault that the bytes up to a place show stands at the place
pub record IsSoundAt (bytes : List ℕ) (k : ℕ) : Type 0 where
  pub not_bad : is_blank (get_or bytes k 0) ≡ false → is_graphic (get_or bytes k 0) ≡ false → ⊥
  pub not_unopened : get_or bytes k 0 ≡ 41 → depth_at bytes k ≡ 0 → ⊥
  pub not_deep : get_or bytes k 0 ≡ 40 → 64 ≤ depth_at bytes k → ⊥

-- from one place up to another there is no fault, and the depth is never less than at first, and at last as much
pub record IsQuiet (bytes : List ℕ) (depth from to : ℕ) : Type 0 where
  pub back : depth_at bytes to ≡ depth
  pub above : (k : ℕ) → from ≤ k → k ≤ to → depth ≤ depth_at bytes k
  pub sound : (k : ℕ) → from ≤ k → k < to → IsSoundAt bytes k

-- a byte that is neither parenthesis, and either a blank or graphic
record IsStill (b : ℕ) : Type 0 where
  no_open : b ≢ 40
  no_close : b ≢ 41
  in_text : b ≢ 0
  good : is_blank b ≡ false → is_graphic b ≡ false → ⊥

still_blank : (b : ℕ) → is_blank b ≡ true → IsStill b
still_blank b h = record {
  no_open = λ e. let p : is_blank 40 ≡ true = subst (λ x. is_blank x ≡ true) e h in cc;
  no_close = λ e. let p : is_blank 41 ≡ true = subst (λ x. is_blank x ≡ true) e h in cc;
  in_text = λ e. let p : is_blank 0 ≡ true = subst (λ x. is_blank x ≡ true) e h in cc;
  good = λ blank graphic. cc;
}

letter_graphic : (b : ℕ) → is_letter b ≡ true → is_graphic b ≡ true
letter_graphic b h = (and_parts (is_graphic b) (not (b == 40)) (and_parts (is_graphic b && not (b == 40)) (not (b == 41)) (and_parts (is_graphic b && not (b == 40) && not (b == 41)) (not (b == 59)) h).0).0).0

still_letter : (b : ℕ) → is_letter b ≡ true → IsStill b
still_letter b h = record {
  no_open = λ e. let p : is_letter 40 ≡ true = subst (λ x. is_letter x ≡ true) e h in cc;
  no_close = λ e. let p : is_letter 41 ≡ true = subst (λ x. is_letter x ≡ true) e h in cc;
  in_text = λ e. let p : is_letter 0 ≡ true = subst (λ x. is_letter x ≡ true) e h in cc;
  good = λ blank graphic. let p : is_graphic b ≡ true = letter_graphic b h in cc;
}

-- over bytes that are no parentheses the depth stays
steady : (bytes : List ℕ) (from to : ℕ) → ((k : ℕ) → from ≤ k → k < to → IsStill (get_or bytes k 0)) → (k : ℕ) → from ≤ k → k ≤ to → depth_at bytes k ≡ depth_at bytes from
steady bytes from to still zero low high = let e : 0 ≡ from = omega arith in ap (depth_at bytes) e
steady bytes from to still (suc k) low high =
    elim (cases_eq from (suc k)) [
      | inl e ↦ ap (depth_at bytes) (sym e)
      | inr ne ↦
          let here = still k (omega arith) (omega arith) in
          depth_more bytes k (within_text bytes k here.in_text) ∙ stays_over (depth_at bytes k) (get_or bytes k 0) here.no_open here.no_close
          ∙ steady bytes from to still k (omega arith) (omega arith)
    ]

quiet_still : (bytes : List ℕ) (depth from to : ℕ) → from ≤ to → depth_at bytes from ≡ depth → ((k : ℕ) → from ≤ k → k < to → IsStill (get_or bytes k 0)) → IsQuiet bytes depth from to
quiet_still bytes depth from to ordered at still = record {
  back = steady bytes from to still to ordered (omega arith) ∙ at;
  above = λ k low high. let e = steady bytes from to still k low high in omega (arith, e, at);
  sound = λ k low high.
      let here = still k low high in
      record { not_bad = here.good; not_unopened = λ e d. here.no_close e; not_deep = λ e d. here.no_open e };
}

pub quiet_join : (bytes : List ℕ) (depth from mid to : ℕ) → IsQuiet bytes depth from mid → IsQuiet bytes depth mid to → IsQuiet bytes depth from to
quiet_join bytes depth from mid to a b = record {
  back = b.back;
  above = λ k low high. elim (cases_lt k mid) [ inl less ↦ a.above k low (omega arith) | inr more ↦ b.above k more high ];
  sound = λ k low high. elim (cases_lt k mid) [ inl less ↦ a.sound k low less | inr more ↦ b.sound k more high ];
}

pub sound_open : (bytes : List ℕ) (a : ℕ) → get_or bytes a 0 ≡ 40 → depth_at bytes a < 64 → IsSoundAt bytes a
sound_open bytes a e low = record {
  not_bad = λ blank graphic. let p : is_graphic 40 ≡ false = subst (λ x. is_graphic x ≡ false) e graphic in cc;
  not_unopened = λ closes d. absurd (omega (arith, e, closes));
  not_deep = λ opens deep. absurd (omega (arith, low, deep));
}

pub sound_close : (bytes : List ℕ) (a : ℕ) → get_or bytes a 0 ≡ 41 → 0 < depth_at bytes a → IsSoundAt bytes a
sound_close bytes a e some = record {
  not_bad = λ blank graphic. let p : is_graphic 41 ≡ false = subst (λ x. is_graphic x ≡ false) e graphic in cc;
  not_unopened = λ closes d. absurd (omega (arith, some, d));
  not_deep = λ opens deep. absurd (omega (arith, e, opens));
}

-- one byte from a place on
one_byte : (P : ℕ → Type 0) (a : ℕ) → P a → (k : ℕ) → a ≤ k → k < suc a → P k
one_byte P a h k low high = let e : a ≡ k = omega arith in subst P e h

quiet_group : (bytes : List ℕ) (depth a close : ℕ) → depth_at bytes a ≡ depth → depth < 64 → get_or bytes a 0 ≡ 40 → suc a ≤ close → IsQuiet bytes (suc depth) (suc a) close → get_or bytes close 0 ≡ 41 → IsQuiet bytes depth a (suc close)
quiet_group bytes depth a close at low opens ordered inside closes =
    let closed = depth_closes bytes close closes in
    let within = inside.back in
    let last : depth_at bytes (suc close) ≡ depth = omega (arith, closed, within) in
    record {
      back = last;
      above = λ k from to.
          elim (cases_lt a k) [
            | inl after ↦ elim (cases_lt close k) [
              | inl past ↦ let e : suc close ≡ k = omega arith in subst (λ j. depth ≤ depth_at bytes j) e (omega (arith, last))
              | inr inner ↦ let more = inside.above k after inner in omega (arith, more)
            ]
            | inr here ↦ let e : a ≡ k = omega arith in subst (λ j. depth ≤ depth_at bytes j) e (omega (arith, at))
          ];
      sound = λ k from to.
          elim (cases_lt a k) [
            | inl after ↦ elim (cases_lt k close) [
              | inl inner ↦ inside.sound k after inner
              | inr past ↦ let e : close ≡ k = omega arith in subst (IsSoundAt bytes) e (sound_close bytes close closes (omega (arith, within)))
            ]
            | inr here ↦ let e : a ≡ k = omega arith in subst (IsSoundAt bytes) e (sound_open bytes a opens (omega (arith, at, low)))
          ];
    }

-- what is spelled has no fault, and leaves no group open
pub spells_quiet : (bytes : List ℕ) (depth from to : ℕ) (trees : Trees) → depth_at bytes from ≡ depth → Spells bytes depth from to trees → IsQuiet bytes depth from to
spells_quiet bytes depth from to none at s = quiet_still bytes depth from to s.ordered at (λ k low high. still_blank (get_or bytes k 0) (s.blanks k low high))
spells_quiet bytes depth from to (word a b rest) at s =
    let gap = quiet_still bytes depth from a s.0.ordered at (λ k low high. still_blank (get_or bytes k 0) (s.0.blanks k low high)) in
    let w : a < b = s.1.ordered in
    let letters = quiet_still bytes depth a b (omega (arith, w)) gap.back (λ k low high. still_letter (get_or bytes k 0) (s.1.letters k low high)) in
    quiet_join bytes depth from a to gap (quiet_join bytes depth a b to letters (spells_quiet bytes depth b to rest letters.back s.2))
spells_quiet bytes depth from to (group a b inside rest) at s =
    let gap = quiet_still bytes depth from a s.0.ordered at (λ k low high. still_blank (get_or bytes k 0) (s.0.blanks k low high)) in
    let within = spells_quiet bytes (suc depth) (suc a) s.3.0 inside (depth_opens bytes a s.2 ∙ ap suc gap.back) s.3.3 in
    let whole = quiet_group bytes depth a s.3.0 gap.back s.1 s.2 (spells_ordered bytes (suc depth) (suc a) s.3.0 inside s.3.3) within s.3.2 in
    let here : IsQuiet bytes depth a b = subst (IsQuiet bytes depth a) s.3.1 whole in
    quiet_join bytes depth from a to gap (quiet_join bytes depth a b to here (spells_quiet bytes depth b to rest here.back s.4))

-- a closing parenthesis within: bytes that run out of open groups do so at some place
pub empties_somewhere : (depth : ℕ) (bs : List ℕ) → empties depth bs ≡ true → (j : ℕ) × (j ≤ length bs) × (depth_after depth (take j bs) ≡ 0)
empties_somewhere depth [] h = (0, omega arith, eqb-true depth 0 h)
empties_somewhere depth (b ∷ bs) h =
    elim (cases_eq depth 0) [
      | inl e ↦ (0, omega arith, e)
      | inr ne ↦
          let rest : empties (depth_over depth b) bs ≡ true = sym (empties_later depth b bs ne) ∙ h in
          let found = empties_somewhere (depth_over depth b) bs rest in
          (suc found.0, omega (arith, found.1), found.2)
    ]
  where
    empties_later : (depth b : ℕ) (bs : List ℕ) → depth ≢ 0 → empties depth (b ∷ bs) ≡ empties (depth_over depth b) bs
    empties_later depth b bs ne = rw (ne_eqb depth 0 ne) refl
