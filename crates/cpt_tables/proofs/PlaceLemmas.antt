-- where values stand
use Rattle.std.proofs.Common.{◌≡◌, ℕ, zero, suc, ◌+◌, ◌*◌, ◌/◌, ◌<◌, ◌⊎◌, max, min, inl, inr, List, length, get_or, replicate, refl, sym, ap, subst, ◌∙◌, arith}
use Rattle.std.proofs.Math.Nat.{add-mul-div_right, mul_comm, suc-mul, mul-add}
use Rattle.std.proofs.lemmas.Nat.{same_from_place, mul-add-lt}
use Rattle.std.proofs.lemmas.Bool.{cases_order}
use Rattle.std.proofs.lemmas.List.{get_or-replicate, get_or-set_other, get_or-set_same}
use Rattle.cpt_task.specs.declared.span.Span.{Span}
use Rattle.cpt_task.specs.declared.span.Span.TheVariants.{Never}
use Rattle.cpt_tables.specs.Shapes.{PairShape, DistShape, row_start, pair_place, pair_at, with_pair, with_dist, pairs_of, dists_of, IsSamePair, SetsPair, SetsDist, IsFilledPairs, IsFilledDists}

next_product : (q : ℕ) → suc q * (suc q + 1) ≡ q * (q + 1) + suc q * 2
next_product q =
    let first : suc q * (suc q + 1) ≡ q * (suc q + 1) + (suc q + 1) = suc-mul q (suc q + 1) in
    let second : q * (suc q + 1) ≡ q * (q + 1) + q * 1 = (let e : suc q + 1 ≡ (q + 1) + 1 = omega arith in rw e (mul-add q (q + 1) 1)) in
    omega (arith, first, second)

-- a row has one value more than its number
pub row_next : (q : ℕ) → row_start (suc q) ≡ row_start q + suc q
row_next q = ap (λ n. n / 2) (next_product q) ∙ add-mul-div_right (q * (q + 1)) (suc q) (omega arith)

-- a row ends before the later rows
pub row_before : (q n : ℕ) → q < n → row_start q + q < row_start n
row_before q zero lt = absurd (omega arith)
row_before q (suc n) lt =
    let next : row_start (suc n) ≡ row_start n + suc n = row_next n in
    elim (cases_order q n) [
      | inl e ↦ let same : row_start q ≡ row_start n = ap row_start e in omega (arith, same, next, e)
      | inr r ↦ elim r [
        | inl l ↦ let before : row_start q + q < row_start n = row_before q n l in omega (arith, before, next)
        | inr l ↦ absurd (omega (arith, l, lt))
      ]
    ]

pub place_within : (n p q : ℕ) → p < n → q < n → pair_place p q < row_start n
place_within n p q lp lq =
    let before : row_start (max p q) + max p q < row_start n = row_before (max p q) n (omega arith) in
    omega (arith, before)

-- two pairs at one place are the same
pub same_from_pair_place : (p q r s : ℕ) → pair_place p q ≡ pair_place r s → IsSamePair p q r s
same_from_pair_place p q r s e = go (cases_order (max p q) (max r s))
  where
    same : (p q r s : ℕ) → max p q ≡ max r s → min p q ≡ min r s → IsSamePair p q r s
    same p q r s = grind arith

    go : ((max p q ≡ max r s) ⊎ ((max p q < max r s) ⊎ (max r s < max p q))) → IsSamePair p q r s
    go (inl m) = same p q r s m (let k : row_start (max p q) ≡ row_start (max r s) = ap row_start m in omega (arith, k, e))
    go (inr (inl l)) = absurd (let b : row_start (max p q) + max p q < row_start (max r s) = row_before (max p q) (max r s) l in omega (arith, b, e))
    go (inr (inr l)) = absurd (let b : row_start (max r s) + max r s < row_start (max p q) = row_before (max r s) (max p q) l in omega (arith, b, e))

pub place_exchanged : (p q : ℕ) → pair_place p q ≡ pair_place q p
place_exchanged p q =
    let up : max p q ≡ max q p = omega arith in
    let down : min p q ≡ min q p = omega arith in
    ap (λ m. row_start m + min p q) up ∙ ap (λ m. row_start (max q p) + m) down

-- a pair table is symmetric
pub pair_exchanged : (h : PairShape) (p q : ℕ) → pair_at h p q ≡ pair_at h q p
pair_exchanged h p q = ap (λ k. get_or h.values k Never) (place_exchanged p q)

pub sets_pair : (h : PairShape) (p q : ℕ) (v : Span) → length h.values ≡ row_start h.atoms → p < h.atoms → q < h.atoms → SetsPair h (with_pair h p q v) p q v
sets_pair h p q v len lp lq = record {
  size = refl;
  here = here;
  exchanged = pair_exchanged (with_pair h p q v) q p ∙ here;
  others = λ r s lr ls other. get_or-set_other h.values (pair_place p q) (pair_place r s) v Never (λ e. other (same_from_pair_place r s p q e));
}
  where
    here : pair_at (with_pair h p q v) p q ≡ v
    here = get_or-set_same h.values (pair_place p q) v Never (subst (λ n. pair_place p q < n) (sym len) (place_within h.atoms p q lp lq))

pub filled_pairs : (n : ℕ) (v : Span) (values : List Span) → values ≡ replicate (row_start n) v → IsFilledPairs (record { atoms = n; values = values }) v
filled_pairs n v values e = subst (λ vs. IsFilledPairs (record { atoms = n; values = vs }) v) (sym e) (filled n v)
  where
    filled : (n : ℕ) (v : Span) → IsFilledPairs (pairs_of n v) v
    filled n v p q lp lq = get_or-replicate (row_start n) (pair_place p q) v Never (place_within n p q lp lq)

dist_within : (d : DistShape) (a p : ℕ) → a < d.actions → p < d.atoms → a * d.atoms + p < d.actions * d.atoms
dist_within d a p la lp = subst (λ k. a * d.atoms + p < k) (mul_comm d.atoms d.actions) (mul-add-lt a d.atoms p d.actions la lp)

pub sets_dist : (d : DistShape) (a p : ℕ) (v : Span) → length d.values ≡ d.actions * d.atoms → a < d.actions → p < d.atoms → SetsDist d (with_dist d a p v) a p v
sets_dist d a p v len la lp = record {
  actions = refl;
  atoms = refl;
  here = get_or-set_same d.values (a * d.atoms + p) v Never (subst (λ n. a * d.atoms + p < n) (sym len) (dist_within d a p la lp));
  others = λ b r lb lr other. get_or-set_other d.values (a * d.atoms + p) (b * d.atoms + r) v Never (λ e. other (same_from_place b r a p d.atoms lr lp e));
}

pub filled_dists : (m n : ℕ) (v : Span) → IsFilledDists (dists_of m n v) v
filled_dists m n v a p la lp = get_or-replicate (m * n) (a * n + p) v Never (subst (λ k. a * n + p < k) (mul_comm n m) (mul-add-lt a n p m la lp))
