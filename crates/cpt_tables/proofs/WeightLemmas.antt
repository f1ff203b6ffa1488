-- laws of lowering values of a list
use Rattle.std.proofs.Common.{◌≡◌, ℕ, zero, suc, ◌+◌, ◌*◌, ◌<◌, ◌≤◌, inl, inr, List, [], ◌∷◌, length, get_or, set, All, sym, subst, arith}
use Rattle.std.proofs.lemmas.Bool.{cases_eq}
use Rattle.std.proofs.lemmas.List.{get_or-set_other, get_or-set_same}
use Rattle.std.proofs.lemmas.List.Elements.{All-set, All-weaker}
use Rattle.cpt_task.specs.declared.span.Span.{Span}
use Rattle.cpt_task.specs.declared.span.Span.TheVariants.{At, Never}
use Rattle.cpt_tables.specs.Spans.{◌≤ˢ◌, ◌<ˢ◌, IsBelow}
use Rattle.cpt_tables.specs.Weights.{value_at, total, one_for, reached, weight_of, weight, IsSmall, IsNextTo}
use Rattle.cpt_tables.proofs.SpanLemmas.{le_refl, below_more}

pub total_set : (f : Span → ℕ) (xs : List Span) (k : ℕ) (v d : Span) → k < length xs → total f (set xs k v) + f (get_or xs k d) ≡ total f xs + f v
total_set f [] k v d lt = absurd (omega arith)
total_set f (x ∷ xs) zero v d lt = omega arith
total_set f (x ∷ xs) (suc k) v d lt =
    let h : total f (set xs k v) + f (get_or xs k d) ≡ total f xs + f v = total_set f xs k v d (omega arith) in
    omega (arith, h)

pub reached_few : (xs : List Span) → reached xs ≤ length xs
reached_few [] = omega arith
reached_few (x ∷ xs) =
    let h : reached xs ≤ length xs = reached_few xs in
    let one : one_for x ≤ 1 = at_most_one x in
    omega (arith, h, one)
  where
    at_most_one : (x : Span) → one_for x ≤ 1
    at_most_one (At m) = omega arith
    at_most_one Never = omega arith

-- what a lesser value is, beside the old one and a limit for it
lesser_counts : (v old : Span) → v <ˢ old → one_for old ≤ one_for v
lesser_counts (At m) (At n) lt = omega arith
lesser_counts (At m) Never lt = omega arith
lesser_counts Never old lt = absurd lt

lesser_weighs : (v old : Span) (n : ℕ) → v <ˢ old → IsBelow n v → n ≤ 1000000000000000 → weight_of v < weight_of old
lesser_weighs (At m) (At k) n lt b le = omega arith
lesser_weighs (At m) Never n lt b le = omega arith
lesser_weighs Never old n lt b le = absurd lt

lesser_below : (v old : Span) (r s : ℕ) → v <ˢ old → IsBelow (100000 * r + 1) old → IsBelow (100000 * r + 100001) v → s + one_for old ≡ r + one_for v → IsBelow (100000 * s + 1) v
lesser_below (At m) (At k) r s lt b next e = omega arith
lesser_below (At m) Never r s lt b next e = omega arith
lesser_below Never old r s lt b next e = absurd lt

pub set_more : (xs : List Span) (k : ℕ) (v : Span) → k < length xs → v <ˢ value_at xs k → reached xs ≤ reached (set xs k v)
set_more xs k v within lt =
    let all : reached (set xs k v) + one_for (value_at xs k) ≡ reached xs + one_for v = total_set one_for xs k v Never within in
    let one : one_for (value_at xs k) ≤ one_for v = lesser_counts v (value_at xs k) lt in
    omega (arith, all, one)

pub small_more : (m n : ℕ) (xs : List Span) → m ≤ n → All (IsBelow (100000 * m + 1)) xs → All (IsBelow (100000 * n + 1)) xs
small_more m n xs le h = All-weaker (IsBelow (100000 * m + 1)) (IsBelow (100000 * n + 1)) (λ x b. below_more (100000 * m + 1) (100000 * n + 1) x (omega arith) b) xs h

pub next_more : (m n : ℕ) (v : Span) → m ≤ n → IsBelow (100000 * m + 100001) v → IsBelow (100000 * n + 100001) v
next_more m n v le h = below_more (100000 * m + 100001) (100000 * n + 100001) v (omega arith) h

pub set_small : (xs : List Span) (k : ℕ) (v : Span) → k < length xs → v <ˢ value_at xs k → IsSmall xs → IsNextTo xs v → IsSmall (set xs k v)
set_small xs k v within lt small next =
    All-set (IsBelow (100000 * reached (set xs k v) + 1)) xs k v
    (lesser_below v (value_at xs k) (reached xs) (reached (set xs k v)) lt (small k Never within) next (total_set one_for xs k v Never within))
    (small_more (reached xs) (reached (set xs k v)) xs (set_more xs k v within lt) small)

pub set_lighter : (xs : List Span) (k : ℕ) (v : Span) → length xs ≤ 8388608 → k < length xs → v <ˢ value_at xs k → IsNextTo xs v → weight (set xs k v) < weight xs
set_lighter xs k v few within lt next =
    let count : reached xs ≤ length xs = reached_few xs in
    let all : weight (set xs k v) + weight_of (value_at xs k) ≡ weight xs + weight_of v = total_set weight_of xs k v Never within in
    let less : weight_of v < weight_of (value_at xs k) = lesser_weighs v (value_at xs k) (100000 * reached xs + 100001) lt next (omega (arith, count, few)) in
    omega (arith, all, less)

-- at another place nothing has changed, and at this one the value is v
pub set_le : (xs : List Span) (k j : ℕ) (v : Span) → k < length xs → v <ˢ value_at xs k → value_at (set xs k v) j ≤ˢ value_at xs j
set_le xs k j v within lt =
    elim (cases_eq j k) [
      | inl e ↦ subst (λ i. value_at (set xs k v) i ≤ˢ value_at xs i) (sym e) (subst (λ x. x ≤ˢ value_at xs k) (sym (get_or-set_same xs k v Never within)) (lt_le v (value_at xs k) lt))
      | inr ne ↦ subst (λ x. x ≤ˢ value_at xs j) (sym (get_or-set_other xs k j v Never ne)) (le_refl (value_at xs j))
    ]
  where
    lt_le : (a b : Span) → a <ˢ b → a ≤ˢ b
    lt_le (At m) (At n) h = omega arith
    lt_le (At m) Never h = tt
    lt_le Never b h = absurd h
