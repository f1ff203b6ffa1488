use Rattle.std.proofs.Common.{◌≡◌, ℕ, zero, suc, ◌<◌, ◌≤◌, inl, inr, true, List, length, get_or, take_all, refl, sym, ap, ◌∙◌, subst, arith}
use Rattle.std.proofs.lemmas.Bool.{cases_lt, cases_eq}
use Rattle.cpt_sexp.specs.declared.item.SexpError.{SexpError}
use Rattle.cpt_sexp.specs.declared.item.SexpError.TheVariants.{BadByte, Unopened, Unclosed, Deep, Memory}
use Rattle.cpt_sexp.specs.Bytes.{is_graphic, plain}
use Rattle.cpt_sexp.specs.Faults.{depth_over, depth_after, depth_at, IsLeftOpen, IsFault, IsFirstFault, byte_of}
use Rattle.cpt_sexp.proofs.Depth.{depth_more, closes_over, stays_over}

-- a group begins before a place, in no other, and is open up to the place
record IsOpenTo (bytes : List ℕ) (k : ℕ) : Type 0 where
  from : ℕ
  before : from < k
  opens : get_or bytes from 0 ≡ 40
  top : depth_at bytes from ≡ 0
  above : (i : ℕ) → from < i → i ≤ k → 0 < depth_at bytes i

past_end : (bytes : List ℕ) (k : ℕ) → length bytes ≤ k → depth_at bytes (suc k) ≡ depth_at bytes k
past_end bytes k le = ap (depth_after 0) (take_all (suc k) bytes (omega arith)) ∙ sym (ap (depth_after 0) (take_all k bytes le))

-- what opens a group where none is open is an opening parenthesis
rises : (depth b : ℕ) → depth ≡ 0 → 0 < depth_over depth b → b ≡ 40
rises depth b e more =
    elim (cases_eq b 40) [
      | inl opens ↦ opens
      | inr no_open ↦ elim (cases_eq b 41) [
        | inl closes ↦ let same = closes_over depth b closes in absurd (omega (arith, same, more, e))
        | inr no_close ↦ let same = stays_over depth b no_open no_close in absurd (omega (arith, same, more, e))
      ]
    ]

-- where some group is open, one that is in no other is
open_to : (bytes : List ℕ) (k : ℕ) → 0 < depth_at bytes k → IsOpenTo bytes k
open_to bytes zero more = absurd (omega arith)
open_to bytes (suc k) more =
    elim (cases_lt 0 (depth_at bytes k)) [
      | inl still ↦
          let found = open_to bytes k still in
          let before = found.before in
          record {
            from = found.from;
            before = omega arith;
            opens = found.opens;
            top = found.top;
            above = λ i low high. elim (cases_lt k i) [ inl last ↦ let e : suc k ≡ i = omega arith in subst (λ n. 0 < depth_at bytes n) e more | inr less ↦ found.above i low less ];
          }
      | inr none_open ↦
          let top : depth_at bytes k ≡ 0 = omega arith in
          elim (cases_lt k (length bytes)) [
            | inl lt ↦ record {
              from = k;
              before = omega arith;
              opens = rises (depth_at bytes k) (get_or bytes k 0) top (let e = depth_more bytes k lt in omega (arith, e, more));
              top = top;
              above = λ i low high. let e : suc k ≡ i = omega arith in subst (λ n. 0 < depth_at bytes n) e more;
            }
            | inr past ↦ let e = past_end bytes k past in absurd (omega (arith, e, more, top))
          ]
    ]

-- the first group that is left open is in no other
unclosed_top : (bytes : List ℕ) (k : ℕ) → IsFault bytes (Unclosed k) → depth_at bytes k ≡ 0
unclosed_top bytes k h =
    elim (cases_lt 0 (depth_at bytes k)) [
      | inl deep ↦
          let found = open_to bytes k deep in
          let top = found.top in
          let left : IsLeftOpen bytes found.from = record {
            opens = found.opens;
            open_after = λ i low high. elim (cases_lt k i) [ inl after ↦ let more = h.0.open_after i after high in omega (arith, more, top) | inr less ↦ let more = found.above i low less in omega (arith, more, top) ];
          } in
          absurd (h.1 found.from found.before left)
      | inr none_open ↦ omega arith
    ]

not_graphic : (bytes : List ℕ) (i j c : ℕ) → IsFault bytes (BadByte i) → i ≡ j → get_or bytes j 0 ≡ c → is_graphic c ≡ true → ⊥
not_graphic bytes i j c bad same is good =
    let p : is_graphic (get_or bytes i 0) ≡ true = ap (λ k. is_graphic (get_or bytes k 0)) same ∙ ap is_graphic is ∙ good in
    let q = bad.2 in cc

two_bytes : (bytes : List ℕ) (i j : ℕ) → i ≡ j → get_or bytes i 0 ≡ 41 → get_or bytes j 0 ≡ 40 → ⊥
two_bytes bytes i j same closes opens =
    let p : get_or bytes i 0 ≡ 40 = ap (λ k. get_or bytes k 0) same ∙ opens in
    absurd (omega (arith, p, closes))

two_depths : (bytes : List ℕ) (i j : ℕ) → i ≡ j → 64 ≤ depth_at bytes i → depth_at bytes j ≡ 0 → ⊥
two_depths bytes i j same deep top =
    let p : depth_at bytes i ≡ 0 = ap (depth_at bytes) same ∙ top in
    absurd (omega (arith, p, deep))

-- two faults at one byte are one
pub one_fault_at : (bytes : List ℕ) (a b : SexpError) → IsFault bytes a → IsFault bytes b → byte_of a ≡ byte_of b → a ≡ b
one_fault_at bytes (BadByte i) (BadByte j) s t same = ap BadByte same
one_fault_at bytes (Unopened i) (Unopened j) s t same = ap Unopened same
one_fault_at bytes (Deep i) (Deep j) s t same = ap Deep same
one_fault_at bytes (Unclosed i) (Unclosed j) s t same = ap Unclosed same
one_fault_at bytes (BadByte i) (Unopened j) s t same = absurd (not_graphic bytes i j 41 s same t.0 refl)
one_fault_at bytes (BadByte i) (Deep j) s t same = absurd (not_graphic bytes i j 40 s same t.0 refl)
one_fault_at bytes (BadByte i) (Unclosed j) s t same = absurd (not_graphic bytes i j 40 s same t.0.opens refl)
one_fault_at bytes (Unopened i) (BadByte j) s t same = absurd (not_graphic bytes j i 41 t (sym same) s.0 refl)
one_fault_at bytes (Deep i) (BadByte j) s t same = absurd (not_graphic bytes j i 40 t (sym same) s.0 refl)
one_fault_at bytes (Unclosed i) (BadByte j) s t same = absurd (not_graphic bytes j i 40 t (sym same) s.0.opens refl)
one_fault_at bytes (Unopened i) (Deep j) s t same = absurd (two_bytes bytes i j same s.0 t.0)
one_fault_at bytes (Unopened i) (Unclosed j) s t same = absurd (two_bytes bytes i j same s.0 t.0.opens)
one_fault_at bytes (Deep i) (Unopened j) s t same = absurd (two_bytes bytes j i (sym same) t.0 s.0)
one_fault_at bytes (Unclosed i) (Unopened j) s t same = absurd (two_bytes bytes j i (sym same) t.0 s.0.opens)
one_fault_at bytes (Deep i) (Unclosed j) s t same = absurd (two_depths bytes i j same s.1 (unclosed_top bytes j t))
one_fault_at bytes (Unclosed i) (Deep j) s t same = absurd (two_depths bytes j i (sym same) t.1 (unclosed_top bytes i s))
one_fault_at bytes (BadByte i) Memory s t same = absurd t
one_fault_at bytes (Unopened i) Memory s t same = absurd t
one_fault_at bytes (Deep i) Memory s t same = absurd t
one_fault_at bytes (Unclosed i) Memory s t same = absurd t
one_fault_at bytes Memory b s t same = absurd s

-- a text has one first fault at most
pub one_first_fault : (text : List ℕ) (a b : SexpError) → IsFirstFault text a → IsFirstFault text b → a ≡ b
one_first_fault text a b s t =
    let low = s.least b t.stands in
    let high = t.least a s.stands in
    one_fault_at (plain text) a b s.stands t.stands (omega (arith, low, high))
