-- Words that are read, and what they are read as.
use Rattle.std.proofs.Common.{◌≡◌, ℕ, ◌^◌, ◌<◌, ◌≤◌, Bool, true, false, cond, eqb, ltb, inl, inr, List, [], ◌∷◌, None, Some, Option, option_map, codes, refl, ap, ◌∙◌, sym, arith}
use Rattle.std.specs.Fmt.{decimal}
use Rattle.std.specs.Str.{bytes_eq}
use Rattle.std.proofs.lemmas.Bool.{eqb-true, ltb-false, le-ltb}
use Rattle.cpt_task.specs.declared.span.Span.{Span}
use Rattle.cpt_task.specs.declared.span.Span.TheVariants.{At, Never}
use Rattle.cpt_sheet.specs.declared.data.Cand.{Cand}
use Rattle.cpt_sheet.specs.declared.data.Cand.TheVariants.{Tok, Out}
use Rattle.cpt_cert_form.specs.Forms.{IsShort, IsShortSpan, IsShortCand, span_word, cand_word, capped, capped_cand}
use Rattle.cpt_cert_read.specs.Reading.{number_in, number_to, id_in, span_in, cand_in, out_in, is_after_in}
use Rattle.cpt_cert_read.proofs.Joining.{is_solid}
use Rattle.cpt_cert_read.proofs.Numerals.{number_some, number_again, number_solid}
use Rattle.cpt_cert_read.proofs.Parts.{eq_bytes, bind_some, map_some, pick, unless, some_is}

-- the number of a token, an atom or an action
abbrev pub IdOf : List ℕ → ℕ → Type 0
IdOf w x = (n : ℕ) × IsShort n × (w ≡ decimal n) × (x ≡ capped n)

pub id_some : (w : List ℕ) (x : ℕ) → id_in w ≡ Some x → IdOf w x
unfolding id_in
id_some w x e =
    let m = map_some capped (number_in w) x e in
    let s = number_some w m.0 m.1 in
    (m.0, s.0, s.1, m.2)

pub id_again : (n : ℕ) → IsShort n → id_in (decimal n) ≡ Some (capped n)
unfolding id_in
id_again n short = rw (number_again n short) refl

pub limited_some : (most : ℕ) (w : List ℕ) (n : ℕ) → number_to most w ≡ Some n → (n ≤ most) × (w ≡ decimal n)
unfolding number_to
limited_some most w n e =
    let b = bind_some (number_in w) (λ n. cond (ltb most n) None (Some n)) n e in
    let u = unless (ltb most b.0) (Some b.0) n b.2 in
    let same : b.0 ≡ n = some_is b.0 n u.1 in
    let le : b.0 ≤ most = ltb-false most b.0 u.0 in
    (omega (arith, same, le), (number_some w b.0 b.1).1 ∙ ap decimal same)

pub limited_again : (most n : ℕ) → n ≤ most → most < 10 ^ 16 → number_to most (decimal n) ≡ Some n
unfolding number_to
limited_again most n le few = rw (number_again n (omega (arith, le, few)), le-ltb most n le) refl

pub span_some : (w : List ℕ) (v : Span) → span_in w ≡ Some v → IsShortSpan v × (w ≡ span_word v)
unfolding span_in
span_some w v e =
    elim (pick (bytes_eq w (codes "never")) (Some Never) (option_map At (number_in w)) v e) [
      | inl h ↦ never v (some_is Never v h.1) (eq_bytes w (codes "never") h.0)
      | inr h ↦
          let m = map_some At (number_in w) v h.1 in
          let s = number_some w m.0 m.1 in
          finite v m.0 m.2 s.0 s.1
    ]
  where
    never : (v : Span) → Never ≡ v → w ≡ codes "never" → IsShortSpan v × (w ≡ span_word v)
    never Never e h = (tt, h)
    never (At n) e h = absurd cc

    finite : (v : Span) (n : ℕ) → v ≡ At n → IsShort n → w ≡ decimal n → IsShortSpan v × (w ≡ span_word v)
    finite Never n e h k = absurd cc
    finite (At m) n e h k = let same : m ≡ n = cc in (omega (arith, same, h), k ∙ ap decimal (sym same))

no_number : number_in (codes "never") ≡ None
unfolding number_in
no_number = refl

not_never : (w : List ℕ) → bytes_eq w (codes "never") ≡ true → number_in w ≡ None
not_never w h = ap number_in (eq_bytes w (codes "never") h) ∙ no_number

no_never : (n : ℕ) → IsShort n → (t : Bool) → bytes_eq (decimal n) (codes "never") ≡ t → t ≡ false
no_never n short true e =
    let none : number_in (decimal n) ≡ None = not_never (decimal n) e in
    let some : number_in (decimal n) ≡ Some n = number_again n short in
    absurd cc
no_never n short false e = refl

pub span_again : (v : Span) → IsShortSpan v → span_in (span_word v) ≡ Some v
unfolding span_in
span_again (At n) short = rw (no_never n short (bytes_eq (decimal n) (codes "never")) refl, number_again n short) refl
span_again Never short = refl

abbrev pub CandOf : List ℕ → Cand → Type 0
CandOf w c = (full : Cand) × IsShortCand full × (w ≡ cand_word full) × (c ≡ capped_cand full)

pub cand_some : (w : List ℕ) (c : Cand) → cand_in w ≡ Some c → CandOf w c
unfolding cand_in
cand_some [] c e = absurd cc
cand_some (b ∷ bs) c e =
    elim (pick (eqb b 116) (option_map Tok (id_in bs)) (cond (eqb b 111) (option_map Out (id_in bs)) None) c e) [
      | inl h ↦
          let m = map_some Tok (id_in bs) c h.1 in
          let s = id_some bs m.0 m.1 in
          let k : b ≡ 116 = eqb-true b 116 h.0 in
          (Tok s.0, s.1, ap (λ x. x ∷ bs) k ∙ ap (λ (x : List ℕ). 116 ∷ x) s.2, m.2 ∙ ap Tok s.3)
      | inr h ↦ elim (pick (eqb b 111) (option_map Out (id_in bs)) None c h.1) [
        | inl h ↦
            let m = map_some Out (id_in bs) c h.1 in
            let s = id_some bs m.0 m.1 in
            let k : b ≡ 111 = eqb-true b 111 h.0 in
            (Out s.0, s.1, ap (λ x. x ∷ bs) k ∙ ap (λ (x : List ℕ). 111 ∷ x) s.2, m.2 ∙ ap Out s.3)
        | inr h ↦ absurd (none_some h.1)
      ]
    ]
  where
    none_some : let o : Option Cand = None in o ≡ Some c → ⊥
    none_some e = cc

pub cand_again : (c : Cand) → IsShortCand c → cand_in (cand_word c) ≡ Some (capped_cand c)
unfolding cand_in
cand_again (Tok n) short = rw (id_again n short) refl
cand_again (Out n) short = rw (id_again n short) refl

pub out_some : (w : List ℕ) (a : ℕ) → out_in w ≡ Some a → (n : ℕ) × IsShort n × (w ≡ cand_word (Out n)) × (a ≡ capped n)
unfolding out_in
out_some [] a e = absurd cc
out_some (b ∷ bs) a e =
    elim (pick (eqb b 111) (id_in bs) None a e) [
      | inl h ↦
          let s = id_some bs a h.1 in
          let k : b ≡ 111 = eqb-true b 111 h.0 in
          (s.0, s.1, ap (λ x. x ∷ bs) k ∙ ap (λ (x : List ℕ). 111 ∷ x) s.2, s.3)
      | inr h ↦ absurd (none_some h.1)
    ]
  where
    none_some : let o : Option ℕ = None in o ≡ Some a → ⊥
    none_some e = cc

pub out_again : (n : ℕ) → IsShort n → out_in (cand_word (Out n)) ≡ Some (capped n)
unfolding out_in
out_again n short = rw (id_again n short) refl

abbrev pub side_word : Bool → List ℕ
side_word true = codes "after"
side_word false = codes "ahead"

pub side_some : (w : List ℕ) (after : Bool) → is_after_in w ≡ Some after → w ≡ side_word after
unfolding is_after_in
side_some w after e =
    elim (pick (bytes_eq w (codes "after")) (Some true) (cond (bytes_eq w (codes "ahead")) (Some false) None) after e) [
      | inl h ↦ eq_bytes w (codes "after") h.0 ∙ ap side_word (some_is true after h.1)
      | inr h ↦ elim (pick (bytes_eq w (codes "ahead")) (Some false) None after h.1) [
        | inl h ↦ eq_bytes w (codes "ahead") h.0 ∙ ap side_word (some_is false after h.1)
        | inr h ↦ absurd (none_some h.1)
      ]
    ]
  where
    none_some : let o : Option Bool = None in o ≡ Some after → ⊥
    none_some e = cc

pub after_again : is_after_in (codes "after") ≡ Some true
unfolding is_after_in
after_again = refl

pub ahead_again : is_after_in (codes "ahead") ≡ Some false
unfolding is_after_in
ahead_again = refl

pub span_solid : (v : Span) → IsShortSpan v → is_solid (span_word v) ≡ true
span_solid (At n) short = number_solid n short
span_solid Never short = refl

pub cand_solid : (c : Cand) → IsShortCand c → is_solid (cand_word c) ≡ true
cand_solid (Tok n) short = number_solid n short
cand_solid (Out n) short = number_solid n short
