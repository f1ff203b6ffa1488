-- increasing lists of orders that have the same orders are one
use Rattle.std.proofs.Common.{◌≡◌, ℕ, List, [], ◌∷◌, Bool, true, false, ◌&&◌, ◌==◌, if◌then◌else◌, refl, sym, ◌∙◌, ap, subst, arith, inl, inr}
use Rattle.std.proofs.lemmas.Bool.{or_cases, or_left, or_right, or_parts, and_parts, and_from, eqb-true, eq-eqb}
use Rattle.std.proofs.lemmas.Bool.Decides.{nat_tests}
use Rattle.cpt_sheet.specs.View.{has_order, pair_lt}
use Rattle.cpt_sheet.specs.Edits.{with_order}
use Rattle.cpt_sheet.specs.Formed.{IsIncreasing}
use Rattle.cpt_calculus.proofs.Below.{order_with}

lt_asym : (x y u v : ℕ) → pair_lt x y u v ≡ true → pair_lt u v x y ≡ true → ⊥
lt_asym x y u v h k = grind (arith, nat_tests)

lt_trans : (x y u v a b : ℕ) → pair_lt x y u v ≡ true → pair_lt u v a b ≡ true → pair_lt x y a b ≡ true
lt_trans x y u v a b h k = grind (arith, nat_tests)

lt_total : (x y u v : ℕ) → pair_lt x y u v ≡ false → ((u == x) && (v == y)) ≡ false → pair_lt u v x y ≡ true
lt_total x y u v h k = grind (arith, nat_tests)

has_head : (o : ℕ × ℕ) (os : List (ℕ × ℕ)) → has_order o.0 o.1 (o ∷ os) ≡ true
has_head o os = or_left ((o.0 == o.0) && (o.1 == o.1)) (has_order o.0 o.1 os) (and_from (o.0 == o.0) (o.1 == o.1) (eq-eqb o.0 o.0 refl) (eq-eqb o.1 o.1 refl))

-- the tails of lists with one head
tail_part : (o p : ℕ × ℕ) (os ps : List (ℕ × ℕ)) → o.0 ≡ p.0 → o.1 ≡ p.1 → IsIncreasing (o ∷ os) →
    ((x y : ℕ) → has_order x y (o ∷ os) ≡ true → has_order x y (p ∷ ps) ≡ true) → (x y : ℕ) → has_order x y os ≡ true → has_order x y ps ≡ true
tail_part o p os ps e d inc h x y k =
    elim (or_cases ((p.0 == x) && (p.1 == y)) (has_order x y ps) (h x y (or_right ((o.0 == x) && (o.1 == y)) (has_order x y os) k))) [
      | inl m ↦
          (let n = and_parts (p.0 == x) (p.1 == y) m in
          let l : pair_lt o.0 o.1 x y ≡ true = inc.0 x y k in
          let a : o.0 ≡ x = e ∙ eqb-true p.0 x n.0 in
          let b : o.1 ≡ y = d ∙ eqb-true p.1 y n.1 in
          absurd (lt_asym o.0 o.1 x y l (subst (λ z. pair_lt z y o.0 o.1 ≡ true) a (subst (λ z. pair_lt o.0 z o.0 o.1 ≡ true) b (subst (λ z. pair_lt o.0 o.1 o.0 z ≡ true) (sym b) (subst (λ z. pair_lt o.0 o.1 z y ≡ true) (sym a) l))))))
      | inr m ↦ m
    ]

pub orders_same : (os ps : List (ℕ × ℕ)) → IsIncreasing os → IsIncreasing ps →
    ((x y : ℕ) → has_order x y os ≡ true → has_order x y ps ≡ true) → ((x y : ℕ) → has_order x y ps ≡ true → has_order x y os ≡ true) → os ≡ ps
orders_same [] [] i j h k = refl
orders_same [] (p ∷ ps) i j h k = let e = k p.0 p.1 (has_head p ps) in cc
orders_same (o ∷ os) [] i j h k = let e = h o.0 o.1 (has_head o os) in cc
orders_same (o ∷ os) (p ∷ ps) i j h k =
    let e : (o.0 ≡ p.0) × (o.1 ≡ p.1) =
    elim (or_cases ((o.0 == p.0) && (o.1 == p.1)) (has_order p.0 p.1 os) (k p.0 p.1 (has_head p ps))) [
      | inl m ↦ (let n = and_parts (o.0 == p.0) (o.1 == p.1) m in (eqb-true o.0 p.0 n.0, eqb-true o.1 p.1 n.1))
      | inr m ↦ elim (or_cases ((p.0 == o.0) && (p.1 == o.1)) (has_order o.0 o.1 ps) (h o.0 o.1 (has_head o os))) [
        | inl m' ↦ (let n = and_parts (p.0 == o.0) (p.1 == o.1) m' in (sym (eqb-true p.0 o.0 n.0), sym (eqb-true p.1 o.1 n.1)))
        | inr m' ↦ absurd (lt_asym o.0 o.1 p.0 p.1 (i.0 p.0 p.1 m) (j.0 o.0 o.1 m'))
      ]
    ] in
    let rest = orders_same os ps i.1 j.1 (tail_part o p os ps e.0 e.1 i h) (tail_part p o ps os (sym e.0) (sym e.1) j k) in
    let pair : ℕ → ℕ → ℕ × ℕ = λ a b. (a, b) in
    ap (λ a. pair a o.1 ∷ os) e.0 ∙ (ap (λ b. pair p.0 b ∷ os) e.1 ∙ ap (λ l. p ∷ l) rest)

-- one more order keeps the list increasing
pub increasing_with : (x y : ℕ) (os : List (ℕ × ℕ)) → has_order x y os ≡ false → IsIncreasing os → IsIncreasing (with_order x y os)
increasing_with x y [] n i = ((λ u v h. cc), tt)
increasing_with x y (o ∷ os) n i = go (pair_lt x y o.0 o.1) refl (increasing_with x y os (or_parts ((o.0 == x) && (o.1 == y)) (has_order x y os) n).1 i.1)
  where
    go : (t : Bool) → pair_lt x y o.0 o.1 ≡ t → IsIncreasing (with_order x y os) → IsIncreasing (if t then ((x, y) ∷ (o ∷ os)) else (o ∷ with_order x y os))
    go true e ih = (
      (λ u v h. elim (or_cases ((o.0 == u) && (o.1 == v)) (has_order u v os) h) [
        | inl m ↦ (let k = and_parts (o.0 == u) (o.1 == v) m in subst (λ z. pair_lt x y z v ≡ true) (eqb-true o.0 u k.0) (subst (λ z. pair_lt x y o.0 z ≡ true) (eqb-true o.1 v k.1) e))
        | inr m ↦ lt_trans x y o.0 o.1 u v e (i.0 u v m)
      ]),
      i,
    )
    go false e ih = (
      (λ u v h. elim (or_cases ((x == u) && (y == v)) (has_order u v os) (sym (order_with x y u v os) ∙ h)) [
        | inl m ↦ (let k = and_parts (x == u) (y == v) m in
            subst (λ z. pair_lt o.0 o.1 z v ≡ true) (eqb-true x u k.0) (subst (λ z. pair_lt o.0 o.1 x z ≡ true) (eqb-true y v k.1)
            (lt_total x y o.0 o.1 e (or_parts ((o.0 == x) && (o.1 == y)) (has_order x y os) n).0)))
        | inr m ↦ i.0 u v m
      ]),
      ih,
    )
