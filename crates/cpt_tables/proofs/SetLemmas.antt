-- laws of the greatest values over sets of atoms
use Rattle.std.proofs.Common.{◌≡◌, ℕ, ◌<◌, ◌⊎◌, min, inl, inr, List, [], ◌∷◌, ◌++◌, get_or, All, Contains, refl, sym, ap, subst, ◌∙◌, arith}
use Rattle.std.proofs.lemmas.List.Elements.{Contains-get_or, Contains-append_left, Contains-append_right, Contains-append_cases}
use Rattle.cpt_task.specs.declared.span.Span.{Span}
use Rattle.cpt_task.specs.declared.span.Span.TheVariants.{At}
use Rattle.cpt_task.specs.declared.task.Action.{Action}
use Rattle.cpt_tables.specs.Spans.{◌≤ˢ◌, ◌+ˢ◌, span_max, IsBelow}
use Rattle.cpt_tables.specs.Shapes.{PairShape, DistShape, most_with, most_across, set_span_of, most_dist, pair_at, dist_at, IsSmallPairs, IsSmallDists}
use Rattle.cpt_tables.specs.Admissible.{limit_by_one, limit_by_two}
use Rattle.cpt_tables.specs.Serving.{IsServed}
use Rattle.cpt_tables.proofs.SpanLemmas.{le_trans, le_antisym, max_left, max_right, max_le, max_assoc, max_comm, max_zero, below_max}
use Rattle.cpt_tables.proofs.MostLemmas.{le_over, over_le, below_over}
use Rattle.cpt_tables.proofs.PlaceLemmas.{pair_exchanged}

-- what holds of all that a list contains
pub all_from : (P : ℕ → Type 0) (xs : List ℕ) → ((x : ℕ) → Contains xs x → P x) → All P xs
all_from P xs h k d lt = h (get_or xs k d) (Contains-get_or xs k d lt)

pub le_across : (h : PairShape) (ps qs : List ℕ) (p q : ℕ) → Contains ps p → Contains qs q → pair_at h p q ≤ˢ most_across h ps qs
le_across h ps qs p q hp hq = le_trans (pair_at h p q) (most_with h qs p) (most_across h ps qs) (le_over (pair_at h p) qs q hq) (le_over (most_with h qs) ps p hp)

pub across_le : (h : PairShape) (ps qs : List ℕ) (v : Span) → ((p q : ℕ) → Contains ps p → Contains qs q → pair_at h p q ≤ˢ v) → most_across h ps qs ≤ˢ v
across_le h ps qs v f =
    over_le (most_with h qs) ps v (all_from (λ p. most_with h qs p ≤ˢ v) ps (λ p hp. over_le (pair_at h p) qs v (all_from (λ q. pair_at h p q ≤ˢ v) qs (λ q hq. f p q hp hq))))

pub with_small : (h : PairShape) (qs : List ℕ) (p : ℕ) → IsSmallPairs h → p < h.atoms → All (λ q. q < h.atoms) qs → IsBelow 1000000000000000 (most_with h qs p)
with_small h qs p small lp all = below_over 1000000000000000 (pair_at h p) qs (omega arith) (λ k d lt. small p (get_or qs k d) lp (all k d lt))

pub across_small : (h : PairShape) (ps qs : List ℕ) → IsSmallPairs h → All (λ p. p < h.atoms) ps → All (λ q. q < h.atoms) qs → IsBelow 1000000000000000 (most_across h ps qs)
across_small h ps qs small some all = below_over 1000000000000000 (most_with h qs) ps (omega arith) (λ k d lt. with_small h qs (get_or ps k d) small (some k d lt) all)

pub dist_small : (d : DistShape) (a : ℕ) (ps : List ℕ) → IsSmallDists d → a < d.actions → All (λ p. p < d.atoms) ps → IsBelow 1000000000000000 (most_dist d a ps)
dist_small d a ps small la all = below_over 1000000000000000 (dist_at d a) ps (omega arith) (λ k e lt. small a (get_or ps k e) la (all k e lt))

-- the set of two lists
pub set_append : (h : PairShape) (xs ys : List ℕ) → set_span_of h (xs ++ ys) ≡ span_max (set_span_of h xs) (span_max (set_span_of h ys) (most_across h xs ys))
set_append h xs ys = le_antisym (set_span_of h (xs ++ ys)) whole (across_le h (xs ++ ys) (xs ++ ys) whole (λ p q hp hq. below p q (Contains-append_cases xs ys p hp) (Contains-append_cases xs ys q hq))) above
  where
    whole : Span
    whole = span_max (set_span_of h xs) (span_max (set_span_of h ys) (most_across h xs ys))

    to_first : (a : Span) → a ≤ˢ set_span_of h xs → a ≤ˢ span_max (set_span_of h xs) (span_max (set_span_of h ys) (most_across h xs ys))
    to_first a le = le_trans a (set_span_of h xs) (span_max (set_span_of h xs) (span_max (set_span_of h ys) (most_across h xs ys))) le (max_left _ _)

    to_second : (a : Span) → a ≤ˢ set_span_of h ys → a ≤ˢ span_max (set_span_of h xs) (span_max (set_span_of h ys) (most_across h xs ys))
    to_second a le = le_trans a (span_max (set_span_of h ys) (most_across h xs ys)) (span_max (set_span_of h xs) (span_max (set_span_of h ys) (most_across h xs ys))) (le_trans a (set_span_of h ys) _ le (max_left _ _)) (max_right _ _)

    to_across : (a : Span) → a ≤ˢ most_across h xs ys → a ≤ˢ span_max (set_span_of h xs) (span_max (set_span_of h ys) (most_across h xs ys))
    to_across a le = le_trans a (span_max (set_span_of h ys) (most_across h xs ys)) (span_max (set_span_of h xs) (span_max (set_span_of h ys) (most_across h xs ys))) (le_trans a (most_across h xs ys) _ le (max_right _ _)) (max_right _ _)

    below : (p q : ℕ) → (Contains xs p ⊎ Contains ys p) → (Contains xs q ⊎ Contains ys q) → pair_at h p q ≤ˢ span_max (set_span_of h xs) (span_max (set_span_of h ys) (most_across h xs ys))
    below p q (inl a) (inl b) = to_first (pair_at h p q) (le_across h xs xs p q a b)
    below p q (inl a) (inr b) = to_across (pair_at h p q) (le_across h xs ys p q a b)
    below p q (inr a) (inl b) = to_across (pair_at h p q) (subst (λ v. v ≤ˢ most_across h xs ys) (pair_exchanged h q p) (le_across h xs ys q p b a))
    below p q (inr a) (inr b) = to_second (pair_at h p q) (le_across h ys ys p q a b)

    l : (p : ℕ) → Contains xs p → Contains (xs ++ ys) p
    l p a = Contains-append_left xs ys p a

    r : (p : ℕ) → Contains ys p → Contains (xs ++ ys) p
    r p a = Contains-append_right xs ys p a

    above : span_max (set_span_of h xs) (span_max (set_span_of h ys) (most_across h xs ys)) ≤ˢ set_span_of h (xs ++ ys)
    above = max_le (set_span_of h xs) (span_max (set_span_of h ys) (most_across h xs ys)) (set_span_of h (xs ++ ys))
        (across_le h xs xs (set_span_of h (xs ++ ys)) (λ p q a b. le_across h (xs ++ ys) (xs ++ ys) p q (l p a) (l q b)))
        (max_le (set_span_of h ys) (most_across h xs ys) (set_span_of h (xs ++ ys))
        (across_le h ys ys (set_span_of h (xs ++ ys)) (λ p q a b. le_across h (xs ++ ys) (xs ++ ys) p q (r p a) (r q b)))
        (across_le h xs ys (set_span_of h (xs ++ ys)) (λ p q a b. le_across h (xs ++ ys) (xs ++ ys) p q (l p a) (r q b))))

across_single : (h : PairShape) (xs : List ℕ) (q : ℕ) → most_across h xs (q ∷ []) ≡ most_with h xs q
across_single h [] q = refl
across_single h (x ∷ xs) q =
    ap (λ v. span_max v (most_across h xs (q ∷ []))) (max_zero (pair_at h x q) ∙ pair_exchanged h x q) ∙ ap (λ v. span_max (pair_at h q x) v) (across_single h xs q)

-- the set of a list and one more atom
pub set_push : (h : PairShape) (xs : List ℕ) (q : ℕ) → set_span_of h (xs ++ q ∷ []) ≡ span_max (set_span_of h xs) (span_max (most_with h xs q) (pair_at h q q))
set_push h xs q =
    set_append h xs (q ∷ [])
    ∙ ap (λ v. span_max (set_span_of h xs) v)
    (max_comm (set_span_of h (q ∷ [])) (most_across h xs (q ∷ []))
    ∙ ap (λ v. span_max v (set_span_of h (q ∷ []))) (across_single h xs q)
    ∙ ap (λ v. span_max (most_with h xs q) v) (max_zero (span_max (pair_at h q q) (At 0)) ∙ max_zero (pair_at h q q)))

pub set_exchanged : (h : PairShape) (xs ys : List ℕ) → set_span_of h (xs ++ ys) ≡ set_span_of h (ys ++ xs)
set_exchanged h xs ys = le_antisym (set_span_of h (xs ++ ys)) (set_span_of h (ys ++ xs)) (le xs ys) (le ys xs)
  where
    turn : (xs ys : List ℕ) (p : ℕ) → Contains (xs ++ ys) p → Contains (ys ++ xs) p
    turn xs ys p has = elim (Contains-append_cases xs ys p has) [ inl a ↦ Contains-append_right ys xs p a | inr b ↦ Contains-append_left ys xs p b ]

    le : (xs ys : List ℕ) → set_span_of h (xs ++ ys) ≤ˢ set_span_of h (ys ++ xs)
    le xs ys = across_le h (xs ++ ys) (xs ++ ys) (set_span_of h (ys ++ xs)) (λ p q a b. le_across h (ys ++ xs) (ys ++ xs) p q (turn xs ys p a) (turn xs ys q b))

max_swap : (a b c : Span) → span_max a (span_max b c) ≡ span_max b (span_max a c)
max_swap a b c = sym (max_assoc a b c) ∙ ap (λ v. span_max v c) (max_comm a b) ∙ max_assoc b a c

min_comm : (m n : ℕ) → min m n ≡ min n m
min_comm m n = omega arith

pub two_exchanged : (h : PairShape) (c d : Action) → limit_by_two h c d ≡ limit_by_two h d c
two_exchanged h c d =
    max_swap (limit_by_one h c) (limit_by_one h d) (set_span_of h (c.pre ++ d.pre) +ˢ At (min c.dur d.dur))
    ∙ ap (λ v. span_max (limit_by_one h d) (span_max (limit_by_one h c) v))
    (ap (λ v. v +ˢ At (min c.dur d.dur)) (set_exchanged h c.pre d.pre) ∙ ap (λ n. set_span_of h (d.pre ++ c.pre) +ˢ At n) (min_comm c.dur d.dur))

-- the limits as the code takes them
pub own_small : (h : PairShape) (c : Action) → IsSmallPairs h → IsServed h c → IsBelow 1000000000000000 (set_span_of h c.pre)
own_small h c small s = across_small h c.pre c.pre small s.atoms.pre s.atoms.pre

pub beside_small : (h : PairShape) (c : Action) (q : ℕ) → IsSmallPairs h → IsServed h c → q < h.atoms → IsBelow 1000000000000000 (span_max (set_span_of h c.pre) (span_max (most_with h c.pre q) (pair_at h q q)))
beside_small h c q small s lq =
    below_max 1000000000000000 (set_span_of h c.pre) (span_max (most_with h c.pre q) (pair_at h q q)) (own_small h c small s) (below_max 1000000000000000 (most_with h c.pre q) (pair_at h q q) (with_small h c.pre q small lq s.atoms.pre) (small q q lq lq))

pub both_small : (h : PairShape) (c d : Action) → IsSmallPairs h → IsServed h c → IsServed h d → IsBelow 1000000000000000 (span_max (set_span_of h c.pre) (span_max (set_span_of h d.pre) (most_across h c.pre d.pre)))
both_small h c d small s r =
    below_max 1000000000000000 (set_span_of h c.pre) (span_max (set_span_of h d.pre) (most_across h c.pre d.pre)) (own_small h c small s)
    (below_max 1000000000000000 (set_span_of h d.pre) (most_across h c.pre d.pre) (own_small h d small r) (across_small h c.pre d.pre small s.atoms.pre r.atoms.pre))
