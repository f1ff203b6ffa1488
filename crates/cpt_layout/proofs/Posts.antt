-- an order more
use Rattle.std.proofs.Common.{◌≡◌, ◌≢◌, ℕ, suc, zero, ◌+◌, ◌≤◌, ◌<◌, List, [], ◌∷◌, ◌++◌, Bool, true, false, if◌then◌else◌, refl, sym, ◌∙◌, ap, subst, arith, inl, inr}
use Rattle.std.proofs.lemmas.Bool.{cases_eq}
use Rattle.std.proofs.lemmas.Bool.Decides.{nat_tests}
use Rattle.cpt_sheet.specs.View.{pair_lt}
use Rattle.cpt_sheet.specs.Edits.{with_order}
use Rattle.cpt_layout.specs.Places.{table, kept, all_pairs, In}
use Rattle.cpt_layout.proofs.Lists.{either, in_table, table_in, in_append, append_in, when, kept_same}
use Rattle.cpt_layout.proofs.Views.{in_pairs}

-- each pair is before all later ones
abbrev pub IsRising : List (ℕ × ℕ) → Type 0
IsRising [] = Unit {0}
IsRising (o ∷ os) = ((q : ℕ × ℕ) → In q os → pair_lt o.0 o.1 q.0 q.1 ≡ true) × IsRising os

lt_asym : (x y u v : ℕ) → pair_lt x y u v ≡ true → pair_lt u v x y ≡ true → ⊥
lt_asym x y u v h k = grind (arith, nat_tests)

lt_next : (x y u v : ℕ) → x ≡ u → y < v → pair_lt x y u v ≡ true
lt_next x y u v h k = grind (arith, nat_tests)

lt_above : (x y u v : ℕ) → x < u → pair_lt x y u v ≡ true
lt_above x y u v h = grind (arith, nat_tests)

not_lt : (x y u v : ℕ) → pair_lt x y u v ≡ true → pair_lt u v x y ≡ false
not_lt x y u v h = elim (either (pair_lt u v x y)) [ inl t ↦ absurd (lt_asym x y u v h t) | inr f ↦ f ]

rising_row : (x i n : ℕ) → IsRising (table (λ y. (x, y)) i n)
rising_row x i zero = tt
rising_row x i (suc n) = ((λ q r. (let z = in_table (λ (y : ℕ). (x, y)) (suc i) n q r in let a : x ≡ q.0 = ap (λ (o : ℕ × ℕ). o.0) z.3 in let b : z.0 ≡ q.1 = ap (λ (o : ℕ × ℕ). o.1) z.3 in let d = z.1 in lt_next x i q.0 q.1 a (omega arith))), rising_row x (suc i) n)

rising_append : (os ps : List (ℕ × ℕ)) → IsRising os → IsRising ps → ((o q : ℕ × ℕ) → In o os → In q ps → pair_lt o.0 o.1 q.0 q.1 ≡ true) → IsRising (os ++ ps)
rising_append [] ps h k d = k
rising_append (o ∷ os) ps h k d = ((λ q r. elim (in_append q os ps r) [ inl a ↦ h.0 q a | inr b ↦ d o q (inl refl) b ]), rising_append os ps h.1 k (λ a b m n. d a b (inr m) n))

pub rising_pairs : (k i n : ℕ) → IsRising (all_pairs k i n)
rising_pairs k i zero = tt
rising_pairs k i (suc n) = rising_append (table (λ y. (i, y)) 0 k) (all_pairs k (suc i) n) (rising_row i 0 k) (rising_pairs k (suc i) n)
    (λ o q a b. (let z = in_table (λ (y : ℕ). (i, y)) 0 k o a in let e : i ≡ o.0 = ap (λ (w : ℕ × ℕ). w.0) z.3 in let t = in_pairs k (suc i) n q b in let l = t.0 in lt_above o.0 o.1 q.0 q.1 (omega arith)))

pub pair_in : (k i n x y : ℕ) → i ≤ x → x < i + n → y < k → In (x, y) (all_pairs k i n)
pair_in k i zero x y a b c = absurd (omega arith)
pair_in k i (suc n) x y a b c = let o : ℕ × ℕ = (x, y) in elim (cases_eq i x) [
  | inl e ↦ append_in (x, y) (table (λ z. (i, z)) 0 k) (all_pairs k (suc i) n) (inl (subst (λ (u : ℕ). In o (table (λ z. (u, z)) 0 k)) (sym e) (table_in (λ (z : ℕ). (x, z)) 0 k y (omega arith) (omega arith))))
  | inr d ↦ append_in (x, y) (table (λ z. (i, z)) 0 k) (all_pairs k (suc i) n) (inr (pair_in k (suc i) n x y (omega arith) (omega arith) c))
]

-- the new order is before all of these
front : (f : ℕ × ℕ → Bool) (x y : ℕ) (os : List (ℕ × ℕ)) → ((q : ℕ × ℕ) → In q os → pair_lt x y q.0 q.1 ≡ true) → with_order x y (kept f os) ≡ (x, y) ∷ kept f os
front f x y [] h = refl
front f x y (o ∷ os) h = elim (either (f o)) [
  | inl t ↦
      (let e : kept f (o ∷ os) ≡ o ∷ kept f os = ap (λ (b : Bool). when b o (kept f os)) t in
      ap (λ (ps : List (ℕ × ℕ)). with_order x y ps) e ∙ (ap (λ (b : Bool). if b then ((x, y) ∷ (o ∷ kept f os)) else (o ∷ with_order x y (kept f os))) (h o (inl refl)) ∙ sym (ap (λ (ps : List (ℕ × ℕ)). (x, y) ∷ ps) e)))
  | inr n ↦
      (let e : kept f (o ∷ os) ≡ kept f os = ap (λ (b : Bool). when b o (kept f os)) n in
      ap (λ (ps : List (ℕ × ℕ)). with_order x y ps) e ∙ (front f x y os (λ q r. h q (inr r)) ∙ sym (ap (λ (ps : List (ℕ × ℕ)). (x, y) ∷ ps) e)))
]

pub kept_post : (f g : ℕ × ℕ → Bool) (x y : ℕ) (os : List (ℕ × ℕ)) → IsRising os → In (x, y) os → f (x, y) ≡ false → g (x, y) ≡ true → ((o : ℕ × ℕ) → In o os → o ≢ (x, y) → g o ≡ f o) → kept g os ≡ with_order x y (kept f os)
kept_post f g x y [] r i a b h = absurd i
kept_post f g x y (o ∷ os) r (inl e) a b h =
    let apart : (q : ℕ × ℕ) → In q os → q ≢ (x, y) = λ q k z. (let l : pair_lt o.0 o.1 q.0 q.1 ≡ true = r.0 q k in let w : o ≡ q = e ∙ sym z in
    let m : pair_lt o.0 o.1 o.0 o.1 ≡ true = subst (λ (u : ℕ × ℕ). pair_lt o.0 o.1 u.0 u.1 ≡ true) (sym w) l in lt_asym o.0 o.1 o.0 o.1 m m) in
    let rest : kept g os ≡ kept f os = kept_same f g os (λ q k. h q (inr k) (apart q k)) in
    let first : (q : ℕ × ℕ) → In q os → pair_lt x y q.0 q.1 ≡ true = λ q k. subst (λ (u : ℕ × ℕ). pair_lt u.0 u.1 q.0 q.1 ≡ true) e (r.0 q k) in
    ap (λ (c : Bool). when c o (kept g os)) (ap g e ∙ b) ∙ (ap (λ (u : ℕ × ℕ). u ∷ kept g os) e ∙ (ap (λ (ps : List (ℕ × ℕ)). (x, y) ∷ ps) rest
    ∙ (sym (front f x y os first) ∙ sym (ap (λ (c : Bool). with_order x y (when c o (kept f os))) (ap f e ∙ a)))))
kept_post f g x y (o ∷ os) r (inr i) a b h =
    let l : pair_lt o.0 o.1 x y ≡ true = r.0 (x, y) i in
    let d : o ≢ (x, y) = λ z. (let m : pair_lt x y x y ≡ true = subst (λ (u : ℕ × ℕ). pair_lt u.0 u.1 x y ≡ true) z l in lt_asym x y x y m m) in
    let rest : kept g os ≡ with_order x y (kept f os) = kept_post f g x y os r.1 i a b (λ q k. h q (inr k)) in
    ap (λ (c : Bool). when c o (kept g os)) (h o (inl refl) d) ∙ (ap (λ (ps : List (ℕ × ℕ)). when (f o) o ps) rest ∙ sym (pulled (f o)))
  where
    pulled : (c : Bool) → with_order x y (when c o (kept f os)) ≡ when c o (with_order x y (kept f os))
    pulled true = ap (λ (b : Bool). if b then ((x, y) ∷ (o ∷ kept f os)) else (o ∷ with_order x y (kept f os))) (not_lt o.0 o.1 x y (r.0 (x, y) i))
    pulled false = refl
