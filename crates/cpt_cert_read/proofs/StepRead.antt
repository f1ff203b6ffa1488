-- Steps that are read, and what they are read as.
use Rattle.std.proofs.Common.{◌≡◌, ℕ, Bool, true, false, eqb, inl, inr, List, [], ◌∷◌, None, Some, Option, option_map, codes, refl, ap, ◌∙◌, sym}
use Rattle.std.specs.Fmt.{decimal}
use Rattle.std.specs.Str.Parse.{digits_value}
use Rattle.std.proofs.lemmas.Bool.{eqb-true}
use Rattle.cpt_task.specs.declared.span.Span.{Span}
use Rattle.cpt_sheet.specs.declared.data.Cand.{Cand}
use Rattle.cpt_sheet.specs.declared.data.Cand.TheVariants.{Out}
use Rattle.cpt_sheet.specs.declared.data.Step.{Step}
use Rattle.cpt_sheet.specs.declared.data.Step.TheVariants.{R1, R2, R3, R4, R5, R6, R7, R8, R9After, R9Ahead, R10, R11After, R11Ahead, R12After, R12Ahead, R13}
use Rattle.cpt_cert_form.specs.Forms.{IsShort, IsShortSpan, IsShortCand, IsShortStep, span_word, cand_word, capped, capped_cand, capped_step, step_words}
use Rattle.cpt_cert_read.specs.Reading.{is_numeral, number_in, id_in, span_in, cand_in, out_in, is_after_in, nothing_in, alone_span_in, alone_cand_in, alone_out_in, cand_id_in, id_side_in, side_span_in, id_side_span_in, r9, r11, r12, step_in}
use Rattle.cpt_cert_read.proofs.Numerals.{number_some}
use Rattle.cpt_cert_read.proofs.Parts.{map_some, pick, nothing_some, alone_some, both_some, each_some}
use Rattle.cpt_cert_read.proofs.WordRead.{id_some, span_some, cand_some, out_some, side_some, side_word}

-- a step of these words behind the rule and two numbers
abbrev pub StepOf : ℕ → ℕ → ℕ → List (List ℕ) → Step → Type 0
StepOf n x p ws s = (full : Step) × IsShortStep full × (step_words full ≡ decimal n ∷ decimal x ∷ decimal p ∷ ws) × (s ≡ capped_step full)

words_are : (n k : ℕ) (rule : List ℕ) (x p : ℕ) (ws ts : List (List ℕ)) → eqb n k ≡ true → decimal k ≡ rule → ws ≡ ts → rule ∷ decimal x ∷ decimal p ∷ ts ≡ decimal n ∷ decimal x ∷ decimal p ∷ ws
words_are n k rule x p ws ts e d h = rw (eqb-true n k e, d, h) refl

-- the digits of a number
rule_is : (w : List ℕ) (k : ℕ) → is_numeral w ≡ true → digits_value 10 w ≡ k → decimal k ≡ w
unfolding number_in
rule_is w k t v = sym (number_some w k (rw (t, v) refl)).1

one : {a : List ℕ} {w : List ℕ} (ws : List (List ℕ)) → ws ≡ a ∷ [] → a ≡ w → ws ≡ w ∷ []
one {a} {w} ws h k = h ∙ ap (λ (x : List ℕ). x ∷ []) k

two : {a b v w : List ℕ} (ws : List (List ℕ)) → ws ≡ a ∷ b ∷ [] → a ≡ v → b ≡ w → ws ≡ v ∷ w ∷ []
two {a} {b} {v} {w} ws h k l = h ∙ ap (λ (x : List ℕ). x ∷ b ∷ []) k ∙ ap (λ (x : List ℕ). v ∷ x ∷ []) l

three : {a b c u v w : List ℕ} (ws : List (List ℕ)) → ws ≡ a ∷ b ∷ c ∷ [] → a ≡ u → b ≡ v → c ≡ w → ws ≡ u ∷ v ∷ w ∷ []
three {a} {b} {c} {u} {v} {w} ws h k l m = h ∙ ap (λ (x : List ℕ). x ∷ b ∷ c ∷ []) k ∙ ap (λ (x : List ℕ). u ∷ x ∷ c ∷ []) l ∙ ap (λ (x : List ℕ). u ∷ v ∷ x ∷ []) m

span_alone : (ws : List (List ℕ)) (v : Span) → alone_span_in ws ≡ Some v → IsShortSpan v × (ws ≡ span_word v ∷ [])
unfolding alone_span_in
span_alone ws v e =
    let a = alone_some span_in ws v e in
    let s = span_some a.0 v a.2 in
    (s.0, one ws a.1 s.1)

cand_alone : (ws : List (List ℕ)) (c : Cand) → alone_cand_in ws ≡ Some c → (full : Cand) × IsShortCand full × (ws ≡ cand_word full ∷ []) × (c ≡ capped_cand full)
unfolding alone_cand_in
cand_alone ws c e =
    let a = alone_some cand_in ws c e in
    let s = cand_some a.0 c a.2 in
    (s.0, s.1, one ws a.1 s.2, s.3)

out_alone : (ws : List (List ℕ)) (x : ℕ) → alone_out_in ws ≡ Some x → (n : ℕ) × IsShort n × (ws ≡ cand_word (Out n) ∷ []) × (x ≡ capped n)
unfolding alone_out_in
out_alone ws x e =
    let a = alone_some out_in ws x e in
    let s = out_some a.0 x a.2 in
    (s.0, s.1, one ws a.1 s.2, s.3)

cand_then_id : (ws : List (List ℕ)) (r : Cand × ℕ) → cand_id_in ws ≡ Some r → (c : Cand) × (n : ℕ) × IsShortCand c × IsShort n × (ws ≡ cand_word c ∷ decimal n ∷ []) × (r.0 ≡ capped_cand c) × (r.1 ≡ capped n)
unfolding cand_id_in
cand_then_id ws r e =
    let b = both_some cand_in id_in ws r e in
    let c = cand_some b.0 r.0 b.3 in
    let n = id_some b.1 r.1 b.4 in
    (c.0, n.0, c.1, n.1, two ws b.2 c.2 n.2, c.3, n.3)

id_then_side : (ws : List (List ℕ)) (r : ℕ × Bool) → id_side_in ws ≡ Some r → (n : ℕ) × IsShort n × (ws ≡ decimal n ∷ side_word r.1 ∷ []) × (r.0 ≡ capped n)
unfolding id_side_in
id_then_side ws r e =
    let b = both_some id_in is_after_in ws r e in
    let n = id_some b.0 r.0 b.3 in
    (n.0, n.1, two ws b.2 n.2 (side_some b.1 r.1 b.4), n.3)

side_then_span : (ws : List (List ℕ)) (r : Bool × Span) → side_span_in ws ≡ Some r → IsShortSpan r.1 × (ws ≡ side_word r.0 ∷ span_word r.1 ∷ [])
unfolding side_span_in
side_then_span ws r e =
    let b = both_some is_after_in span_in ws r e in
    let v = span_some b.1 r.1 b.4 in
    (v.0, two ws b.2 (side_some b.0 r.0 b.3) v.1)

id_side_span : (ws : List (List ℕ)) (r : ℕ × Bool × Span) → id_side_span_in ws ≡ Some r → (n : ℕ) × IsShort n × IsShortSpan r.2 × (ws ≡ decimal n ∷ side_word r.1 ∷ span_word r.2 ∷ []) × (r.0 ≡ capped n)
unfolding id_side_span_in
id_side_span ws r e =
    let b = each_some id_in is_after_in span_in ws r e in
    let n = id_some b.0 r.0 b.4 in
    let v = span_some b.2 r.2 b.6 in
    (n.0, n.1, v.0, three ws b.3 n.2 (side_some b.1 r.1 b.5) v.1, n.3)

r1_some : (n x p : ℕ) (ws : List (List ℕ)) (s : Step) → IsShort x → IsShort p → eqb n 1 ≡ true → option_map (λ v. R1 (capped x) (capped p) v) (alone_span_in ws) ≡ Some s → StepOf n x p ws s
r1_some n x p ws s hx hp t e =
    let m = map_some (λ v. R1 (capped x) (capped p) v) (alone_span_in ws) s e in
    let a = span_alone ws m.0 m.1 in
    (R1 x p m.0, (hx, hp, a.0), words_are n 1 (codes "1") x p ws (span_word m.0 ∷ []) t (rule_is (codes "1") 1 refl refl) a.1, m.2)

r2_some : (n x p : ℕ) (ws : List (List ℕ)) (s : Step) → IsShort x → IsShort p → eqb n 2 ≡ true → option_map (λ v. R2 (capped x) (capped p) v) (alone_span_in ws) ≡ Some s → StepOf n x p ws s
r2_some n x p ws s hx hp t e =
    let m = map_some (λ v. R2 (capped x) (capped p) v) (alone_span_in ws) s e in
    let a = span_alone ws m.0 m.1 in
    (R2 x p m.0, (hx, hp, a.0), words_are n 2 (codes "2") x p ws (span_word m.0 ∷ []) t (rule_is (codes "2") 2 refl refl) a.1, m.2)

r3_some : (n x p : ℕ) (ws : List (List ℕ)) (s : Step) → IsShort x → IsShort p → eqb n 3 ≡ true → nothing_in (R3 (capped x) (capped p)) ws ≡ Some s → StepOf n x p ws s
r3_some n x p ws s hx hp t e =
    let m = nothing_some (R3 (capped x) (capped p)) ws s e in
    (R3 x p, (hx, hp), words_are n 3 (codes "3") x p ws [] t (rule_is (codes "3") 3 refl refl) m.0, m.1)

r4_some : (n x p : ℕ) (ws : List (List ℕ)) (s : Step) → IsShort x → IsShort p → eqb n 4 ≡ true → option_map (λ v. R4 (capped x) (capped p) v) (alone_span_in ws) ≡ Some s → StepOf n x p ws s
r4_some n x p ws s hx hp t e =
    let m = map_some (λ v. R4 (capped x) (capped p) v) (alone_span_in ws) s e in
    let a = span_alone ws m.0 m.1 in
    (R4 x p m.0, (hx, hp, a.0), words_are n 4 (codes "4") x p ws (span_word m.0 ∷ []) t (rule_is (codes "4") 4 refl refl) a.1, m.2)

r5_some : (n x p : ℕ) (ws : List (List ℕ)) (s : Step) → IsShort x → IsShort p → eqb n 5 ≡ true → option_map (λ c. R5 (capped x) (capped p) c) (alone_cand_in ws) ≡ Some s → StepOf n x p ws s
r5_some n x p ws s hx hp t e =
    let m = map_some (λ c. R5 (capped x) (capped p) c) (alone_cand_in ws) s e in
    let a = cand_alone ws m.0 m.1 in
    (R5 x p a.0, (hx, hp, a.1), words_are n 5 (codes "5") x p ws (cand_word a.0 ∷ []) t (rule_is (codes "5") 5 refl refl) a.2, m.2 ∙ ap (λ c. R5 (capped x) (capped p) c) a.3)

r6_some : (n x p : ℕ) (ws : List (List ℕ)) (s : Step) → IsShort x → IsShort p → eqb n 6 ≡ true → nothing_in (R6 (capped x) (capped p)) ws ≡ Some s → StepOf n x p ws s
r6_some n x p ws s hx hp t e =
    let m = nothing_some (R6 (capped x) (capped p)) ws s e in
    (R6 x p, (hx, hp), words_are n 6 (codes "6") x p ws [] t (rule_is (codes "6") 6 refl refl) m.0, m.1)

r7_some : (n x p : ℕ) (ws : List (List ℕ)) (s : Step) → IsShort x → IsShort p → eqb n 7 ≡ true → option_map (λ a. R7 (capped x) (capped p) a) (alone_out_in ws) ≡ Some s → StepOf n x p ws s
r7_some n x p ws s hx hp t e =
    let m = map_some (λ a. R7 (capped x) (capped p) a) (alone_out_in ws) s e in
    let a = out_alone ws m.0 m.1 in
    (R7 x p a.0, (hx, hp, a.1), words_are n 7 (codes "7") x p ws (cand_word (Out a.0) ∷ []) t (rule_is (codes "7") 7 refl refl) a.2, m.2 ∙ ap (λ c. R7 (capped x) (capped p) c) a.3)

r8_some : (n x p : ℕ) (ws : List (List ℕ)) (s : Step) → IsShort x → IsShort p → eqb n 8 ≡ true → option_map (λ (c : Cand × ℕ). R8 (capped x) (capped p) c.0 c.1) (cand_id_in ws) ≡ Some s → StepOf n x p ws s
r8_some n x p ws s hx hp t e =
    let m = map_some (λ (c : Cand × ℕ). R8 (capped x) (capped p) c.0 c.1) (cand_id_in ws) s e in
    let a = cand_then_id ws m.0 m.1 in
    (R8 x p a.0 a.1, (hx, hp, a.2, a.3), words_are n 8 (codes "8") x p ws (cand_word a.0 ∷ decimal a.1 ∷ []) t (rule_is (codes "8") 8 refl refl) a.4, m.2 ∙ ap (λ c. R8 (capped x) (capped p) c m.0.1) a.5 ∙ ap (λ y. R8 (capped x) (capped p) (capped_cand a.0) y) a.6)

r9_by : (n x p : ℕ) (ws : List (List ℕ)) (d : ℕ) (after : Bool) → IsShort x → IsShort p → eqb n 9 ≡ true → IsShort d → ws ≡ decimal d ∷ side_word after ∷ [] → StepOf n x p ws (r9 (capped x) (capped p) (capped d, after))
r9_by n x p ws d true hx hp t hd e = (R9After x p d, (hx, hp, hd), words_are n 9 (codes "9") x p ws (decimal d ∷ codes "after" ∷ []) t (rule_is (codes "9") 9 refl refl) e, refl)
r9_by n x p ws d false hx hp t hd e = (R9Ahead x p d, (hx, hp, hd), words_are n 9 (codes "9") x p ws (decimal d ∷ codes "ahead" ∷ []) t (rule_is (codes "9") 9 refl refl) e, refl)

r9_some : (n x p : ℕ) (ws : List (List ℕ)) (s : Step) → IsShort x → IsShort p → eqb n 9 ≡ true → option_map (r9 (capped x) (capped p)) (id_side_in ws) ≡ Some s → StepOf n x p ws s
r9_some n x p ws s hx hp t e =
    let m = map_some (r9 (capped x) (capped p)) (id_side_in ws) s e in
    let a = id_then_side ws m.0 m.1 in
    let b = r9_by n x p ws a.0 m.0.1 hx hp t a.1 a.2 in
    (b.0, b.1, b.2, m.2 ∙ ap (λ d. r9 (capped x) (capped p) (d, m.0.1)) a.3 ∙ b.3)

r10_some : (n x p : ℕ) (ws : List (List ℕ)) (s : Step) → IsShort x → IsShort p → eqb n 10 ≡ true → option_map (λ v. R10 (capped x) (capped p) v) (alone_span_in ws) ≡ Some s → StepOf n x p ws s
r10_some n x p ws s hx hp t e =
    let m = map_some (λ v. R10 (capped x) (capped p) v) (alone_span_in ws) s e in
    let a = span_alone ws m.0 m.1 in
    (R10 x p m.0, (hx, hp, a.0), words_are n 10 (codes "10") x p ws (span_word m.0 ∷ []) t (rule_is (codes "10") 10 refl refl) a.1, m.2)

r11_by : (n x p : ℕ) (ws : List (List ℕ)) (a : ℕ) (after : Bool) (v : Span) → IsShort x → IsShort p → eqb n 11 ≡ true → IsShort a → IsShortSpan v → ws ≡ decimal a ∷ side_word after ∷ span_word v ∷ [] → StepOf n x p ws (r11 (capped x) (capped p) (capped a, after, v))
r11_by n x p ws a true v hx hp t ha hv e = (R11After x p a v, (hx, hp, ha, hv), words_are n 11 (codes "11") x p ws (decimal a ∷ codes "after" ∷ span_word v ∷ []) t (rule_is (codes "11") 11 refl refl) e, refl)
r11_by n x p ws a false v hx hp t ha hv e = (R11Ahead x p a v, (hx, hp, ha, hv), words_are n 11 (codes "11") x p ws (decimal a ∷ codes "ahead" ∷ span_word v ∷ []) t (rule_is (codes "11") 11 refl refl) e, refl)

r11_some : (n x p : ℕ) (ws : List (List ℕ)) (s : Step) → IsShort x → IsShort p → eqb n 11 ≡ true → option_map (r11 (capped x) (capped p)) (id_side_span_in ws) ≡ Some s → StepOf n x p ws s
r11_some n x p ws s hx hp t e =
    let m = map_some (r11 (capped x) (capped p)) (id_side_span_in ws) s e in
    let a = id_side_span ws m.0 m.1 in
    let b = r11_by n x p ws a.0 m.0.1 m.0.2 hx hp t a.1 a.2 a.3 in
    (b.0, b.1, b.2, m.2 ∙ ap (λ d. r11 (capped x) (capped p) (d, m.0.1, m.0.2)) a.4 ∙ b.3)

r12_by : (n x a : ℕ) (ws : List (List ℕ)) (after : Bool) (v : Span) → IsShort x → IsShort a → eqb n 12 ≡ true → IsShortSpan v → ws ≡ side_word after ∷ span_word v ∷ [] → StepOf n x a ws (r12 (capped x) (capped a) (after, v))
r12_by n x a ws true v hx ha t hv e = (R12After x a v, (hx, ha, hv), words_are n 12 (codes "12") x a ws (codes "after" ∷ span_word v ∷ []) t (rule_is (codes "12") 12 refl refl) e, refl)
r12_by n x a ws false v hx ha t hv e = (R12Ahead x a v, (hx, ha, hv), words_are n 12 (codes "12") x a ws (codes "ahead" ∷ span_word v ∷ []) t (rule_is (codes "12") 12 refl refl) e, refl)

r12_some : (n x p : ℕ) (ws : List (List ℕ)) (s : Step) → IsShort x → IsShort p → eqb n 12 ≡ true → option_map (r12 (capped x) (capped p)) (side_span_in ws) ≡ Some s → StepOf n x p ws s
r12_some n x p ws s hx hp t e =
    let m = map_some (r12 (capped x) (capped p)) (side_span_in ws) s e in
    let a = side_then_span ws m.0 m.1 in
    let b = r12_by n x p ws m.0.0 m.0.1 hx hp t a.0 a.1 in
    (b.0, b.1, b.2, m.2 ∙ b.3)

r13_some : (n x p : ℕ) (ws : List (List ℕ)) (s : Step) → IsShort x → IsShort p → eqb n 13 ≡ true → option_map (λ (c : Cand × ℕ). R13 (capped x) (capped p) c.0 c.1) (cand_id_in ws) ≡ Some s → StepOf n x p ws s
r13_some n x p ws s hx hp t e =
    let m = map_some (λ (c : Cand × ℕ). R13 (capped x) (capped p) c.0 c.1) (cand_id_in ws) s e in
    let a = cand_then_id ws m.0 m.1 in
    (R13 x p a.0 a.1, (hx, hp, a.2, a.3), words_are n 13 (codes "13") x p ws (cand_word a.0 ∷ decimal a.1 ∷ []) t (rule_is (codes "13") 13 refl refl) a.4, m.2 ∙ ap (λ c. R13 (capped x) (capped p) c m.0.1) a.5 ∙ ap (λ y. R13 (capped x) (capped p) (capped_cand a.0) y) a.6)

-- a step that is read is spelled so
pub step_some : (n x p : ℕ) (ws : List (List ℕ)) (s : Step) → IsShort x → IsShort p → step_in n (capped x) (capped p) ws ≡ Some s → StepOf n x p ws s
unfolding step_in
step_some n x p ws s hx hp e =
    elim (pick (eqb n 1) _ _ s e) [
      | inl h ↦ r1_some n x p ws s hx hp h.0 h.1
      | inr h ↦ elim (pick (eqb n 2) _ _ s h.1) [
        | inl h ↦ r2_some n x p ws s hx hp h.0 h.1
        | inr h ↦ elim (pick (eqb n 3) _ _ s h.1) [
          | inl h ↦ r3_some n x p ws s hx hp h.0 h.1
          | inr h ↦ elim (pick (eqb n 4) _ _ s h.1) [
            | inl h ↦ r4_some n x p ws s hx hp h.0 h.1
            | inr h ↦ elim (pick (eqb n 5) _ _ s h.1) [
              | inl h ↦ r5_some n x p ws s hx hp h.0 h.1
              | inr h ↦ elim (pick (eqb n 6) _ _ s h.1) [
                | inl h ↦ r6_some n x p ws s hx hp h.0 h.1
                | inr h ↦ elim (pick (eqb n 7) _ _ s h.1) [
                  | inl h ↦ r7_some n x p ws s hx hp h.0 h.1
                  | inr h ↦ elim (pick (eqb n 8) _ _ s h.1) [
                    | inl h ↦ r8_some n x p ws s hx hp h.0 h.1
                    | inr h ↦ elim (pick (eqb n 9) _ _ s h.1) [
                      | inl h ↦ r9_some n x p ws s hx hp h.0 h.1
                      | inr h ↦ elim (pick (eqb n 10) _ _ s h.1) [
                        | inl h ↦ r10_some n x p ws s hx hp h.0 h.1
                        | inr h ↦ elim (pick (eqb n 11) _ _ s h.1) [
                          | inl h ↦ r11_some n x p ws s hx hp h.0 h.1
                          | inr h ↦ elim (pick (eqb n 12) _ _ s h.1) [
                            | inl h ↦ r12_some n x p ws s hx hp h.0 h.1
                            | inr h ↦ elim (pick (eqb n 13) _ _ s h.1) [
                              | inl h ↦ r13_some n x p ws s hx hp h.0 h.1
                              | inr h ↦ absurd (none_some h.1)
                            ]
                          ]
                        ]
                      ]
                    ]
                  ]
                ]
              ]
            ]
          ]
        ]
      ]
    ]
  where
    none_some : let o : Option Step = None in o ≡ Some s → ⊥
    none_some e = cc
