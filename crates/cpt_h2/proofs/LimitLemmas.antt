-- laws of limits
use Rattle.std.proofs.Common.{◌≡◌, ℕ, zero, suc, ◌+◌, ◌*◌, ◌<◌, ◌≤◌, ◌^◌, ◌⊎◌, inl, inr, List, [], ◌∷◌, ◌++◌, length, get_or, All, Contains, refl, sym, ap, subst, ◌∙◌, arith}
use Rattle.std.proofs.lemmas.List.Elements.{Contains-append_left, Contains-append_right, Contains-append_cases}
use Rattle.cpt_task.specs.declared.span.Span.{Span}
use Rattle.cpt_task.specs.declared.span.Span.TheVariants.{At, Never}
use Rattle.cpt_tables.specs.Spans.{◌≤ˢ◌, ◌+ˢ◌, span_max, IsBelow}
use Rattle.cpt_tables.specs.Shapes.{PairShape, pair_at, pair_place, most_with, most_across, set_span_of}
use Rattle.cpt_tables.proofs.SpanLemmas.{le_trans, le_antisym, max_left, max_right, max_le, below_more, below_max}
use Rattle.cpt_tables.proofs.MostLemmas.{le_over, over_le, below_over}
use Rattle.cpt_tables.proofs.PlaceLemmas.{place_within, pair_exchanged}
use Rattle.cpt_tables.specs.Weights.{reached, IsNextTo}
use Rattle.cpt_h2.specs.Board.{BoardShape, IsGood}
use Rattle.cpt_tables.proofs.WeightLemmas.{reached_few}
use Rattle.cpt_h2.proofs.BoardLemmas.{places_few}

-- within a list the default does not matter
get_or_self : (xs : List ℕ) (k d : ℕ) → k < length xs → get_or xs k (get_or xs k d) ≡ get_or xs k d
get_or_self [] k d lt = absurd (omega arith)
get_or_self (x ∷ xs) zero d lt = refl
get_or_self (x ∷ xs) (suc k) d lt = get_or_self xs k d (omega arith)

pub all_of : (P : ℕ → Type 0) (xs : List ℕ) → ((x : ℕ) → Contains xs x → P x) → All P xs
all_of P xs h k d lt = h (get_or xs k d) (k, lt, get_or_self xs k d lt)

-- a value of an atom of the first list with one of the second is at most the greatest
pub le_across : (h : PairShape) (ps qs : List ℕ) (x y : ℕ) → Contains ps x → Contains qs y → pair_at h x y ≤ˢ most_across h ps qs
le_across h ps qs x y hx hy = le_trans (pair_at h x y) (most_with h qs x) (most_across h ps qs) (le_over (pair_at h x) qs y hy) (le_over (most_with h qs) ps x hx)

-- the greatest is at most what each value is at most
pub across_le : (h : PairShape) (ps qs : List ℕ) (v : Span) → ((x y : ℕ) → Contains ps x → Contains qs y → pair_at h x y ≤ˢ v) → most_across h ps qs ≤ˢ v
across_le h ps qs v le = over_le (most_with h qs) ps v (all_of (λ x. most_with h qs x ≤ˢ v) ps (λ x hx. over_le (pair_at h x) qs v (all_of (λ y. pair_at h x y ≤ˢ v) qs (λ y hy. le x y hx hy))))

-- the atoms of two lists together
pub span_both : (h : PairShape) (ps qs : List ℕ) → set_span_of h (ps ++ qs) ≡ span_max (set_span_of h ps) (span_max (set_span_of h qs) (most_across h ps qs))
span_both h ps qs = le_antisym (set_span_of h (ps ++ qs)) top (across_le h (ps ++ qs) (ps ++ qs) top up) (max_le (set_span_of h ps) (span_max (set_span_of h qs) (most_across h ps qs)) (set_span_of h (ps ++ qs)) first (max_le (set_span_of h qs) (most_across h ps qs) (set_span_of h (ps ++ qs)) second third))
  where
    top : Span
    top = span_max (set_span_of h ps) (span_max (set_span_of h qs) (most_across h ps qs))

    first : set_span_of h ps ≤ˢ set_span_of h (ps ++ qs)
    first = across_le h ps ps (set_span_of h (ps ++ qs)) (λ x y hx hy. le_across h (ps ++ qs) (ps ++ qs) x y (Contains-append_left ps qs x hx) (Contains-append_left ps qs y hy))

    second : set_span_of h qs ≤ˢ set_span_of h (ps ++ qs)
    second = across_le h qs qs (set_span_of h (ps ++ qs)) (λ x y hx hy. le_across h (ps ++ qs) (ps ++ qs) x y (Contains-append_right ps qs x hx) (Contains-append_right ps qs y hy))

    third : most_across h ps qs ≤ˢ set_span_of h (ps ++ qs)
    third = across_le h ps qs (set_span_of h (ps ++ qs)) (λ x y hx hy. le_across h (ps ++ qs) (ps ++ qs) x y (Contains-append_left ps qs x hx) (Contains-append_right ps qs y hy))

    below_first : (x y : ℕ) → Contains ps x → Contains ps y → pair_at h x y ≤ˢ top
    below_first x y hx hy = le_trans (pair_at h x y) (set_span_of h ps) top (le_across h ps ps x y hx hy) (max_left (set_span_of h ps) (span_max (set_span_of h qs) (most_across h ps qs)))

    rest_below : span_max (set_span_of h qs) (most_across h ps qs) ≤ˢ top
    rest_below = max_right (set_span_of h ps) (span_max (set_span_of h qs) (most_across h ps qs))

    below_second : (x y : ℕ) → Contains qs x → Contains qs y → pair_at h x y ≤ˢ top
    below_second x y hx hy = le_trans (pair_at h x y) (set_span_of h qs) top (le_across h qs qs x y hx hy) (le_trans (set_span_of h qs) (span_max (set_span_of h qs) (most_across h ps qs)) top (max_left (set_span_of h qs) (most_across h ps qs)) rest_below)

    below_third : (x y : ℕ) → Contains ps x → Contains qs y → pair_at h x y ≤ˢ top
    below_third x y hx hy = le_trans (pair_at h x y) (most_across h ps qs) top (le_across h ps qs x y hx hy) (le_trans (most_across h ps qs) (span_max (set_span_of h qs) (most_across h ps qs)) top (max_right (set_span_of h qs) (most_across h ps qs)) rest_below)

    by_cases : (x y : ℕ) → (Contains ps x ⊎ Contains qs x) → (Contains ps y ⊎ Contains qs y) → pair_at h x y ≤ˢ top
    by_cases x y (inl hx) (inl hy) = below_first x y hx hy
    by_cases x y (inl hx) (inr hy) = below_third x y hx hy
    by_cases x y (inr hx) (inl hy) = subst (λ v. v ≤ˢ top) (pair_exchanged h y x) (below_third y x hy hx)
    by_cases x y (inr hx) (inr hy) = below_second x y hx hy

    up : (x y : ℕ) → Contains (ps ++ qs) x → Contains (ps ++ qs) y → pair_at h x y ≤ˢ top
    up x y hx hy = by_cases x y (Contains-append_cases ps qs x hx) (Contains-append_cases ps qs y hy)

pub only : (q : ℕ) → Contains (q ∷ []) q
only q = (0, omega arith, refl)

pub only_is : (q x : ℕ) → Contains (q ∷ []) x → x ≡ q
only_is q x (zero, lt, e) = sym e
only_is q x (suc k, lt, e) = absurd (omega arith)

-- the atoms of a list and one more
pub span_and : (h : PairShape) (ps : List ℕ) (q : ℕ) → set_span_of h (ps ++ q ∷ []) ≡ span_max (set_span_of h ps) (span_max (most_with h ps q) (pair_at h q q))
span_and h ps q = span_both h ps (q ∷ []) ∙ ap (λ m. span_max (set_span_of h ps) m) (le_antisym (span_max (set_span_of h (q ∷ [])) (most_across h ps (q ∷ []))) rest
    (max_le (set_span_of h (q ∷ [])) (most_across h ps (q ∷ [])) rest
    (across_le h (q ∷ []) (q ∷ []) rest (λ x y hx hy. subst (λ a. pair_at h a y ≤ˢ rest) (sym (only_is q x hx)) (subst (λ a. pair_at h q a ≤ˢ rest) (sym (only_is q y hy)) (max_right (most_with h ps q) (pair_at h q q)))))
    (across_le h ps (q ∷ []) rest (λ x y hx hy. subst (λ a. pair_at h x a ≤ˢ rest) (sym (only_is q y hy)) (subst (λ v. v ≤ˢ rest) (pair_exchanged h q x) (le_trans (pair_at h q x) (most_with h ps q) rest (le_over (pair_at h q) ps x hx) (max_left (most_with h ps q) (pair_at h q q)))))))
    (max_le (most_with h ps q) (pair_at h q q) (span_max (set_span_of h (q ∷ [])) (most_across h ps (q ∷ [])))
    (over_le (pair_at h q) ps (span_max (set_span_of h (q ∷ [])) (most_across h ps (q ∷ []))) (all_of (λ x. pair_at h q x ≤ˢ span_max (set_span_of h (q ∷ [])) (most_across h ps (q ∷ []))) ps
    (λ x hx. subst (λ v. v ≤ˢ span_max (set_span_of h (q ∷ [])) (most_across h ps (q ∷ []))) (pair_exchanged h x q) (le_trans (pair_at h x q) (most_across h ps (q ∷ [])) (span_max (set_span_of h (q ∷ [])) (most_across h ps (q ∷ []))) (le_across h ps (q ∷ []) x q hx (only q)) (max_right (set_span_of h (q ∷ [])) (most_across h ps (q ∷ [])))))))
    (le_trans (pair_at h q q) (set_span_of h (q ∷ [])) (span_max (set_span_of h (q ∷ [])) (most_across h ps (q ∷ []))) (le_across h (q ∷ []) (q ∷ []) q q (only q) (only q)) (max_left (set_span_of h (q ∷ [])) (most_across h ps (q ∷ []))))))
  where
    rest : Span
    rest = span_max (most_with h ps q) (pair_at h q q)

-- spans over a good board are small
pub across_small : (b : BoardShape) (ps qs : List ℕ) → IsGood b → All (λ p. p < b.pairs.atoms) ps → All (λ q. q < b.pairs.atoms) qs → IsBelow (100000 * reached b.pairs.values + 1) (most_across b.pairs ps qs)
across_small b ps qs good hp hq =
    below_over limit (most_with b.pairs qs) ps (omega arith) (λ k d lt. below_over limit (pair_at b.pairs (get_or ps k d)) qs (omega arith) (λ j e lt'. pair_small (get_or ps k d) (get_or qs j e) (hp k d lt) (hq j e lt')))
  where
    limit : ℕ
    limit = 100000 * reached b.pairs.values + 1

    pair_small : (p q : ℕ) → p < b.pairs.atoms → q < b.pairs.atoms → IsBelow limit (pair_at b.pairs p q)
    pair_small p q lp lq = good.small (pair_place p q) Never (subst (λ n. pair_place p q < n) (sym good.places) (place_within b.pairs.atoms p q lp lq))

pub below_only : (n q : ℕ) → q < n → All (λ p. p < n) (q ∷ [])
below_only n q lt = all_of (λ p. p < n) (q ∷ []) (λ x hx. subst (λ p. p < n) (sym (only_is q x hx)) lt)

pub small_fits : (b : BoardShape) (v : Span) → IsGood b → IsBelow (100000 * reached b.pairs.values + 1) v → IsBelow (2 ^ 63) v
small_fits b v good small =
    let count : reached b.pairs.values ≤ length b.pairs.values = reached_few b.pairs.values in
    let few : length b.pairs.values ≤ 8388608 = places_few b good in
    below_more (100000 * reached b.pairs.values + 1) (2 ^ 63) v (omega (arith, count, few)) small

pub next_sum : (a : Span) (r d : ℕ) → IsBelow (100000 * r + 1) a → d ≤ 100000 → IsBelow (100000 * r + 100001) (a +ˢ At d)
next_sum (At m) r d b le = omega arith
next_sum Never r d b le = tt

pub next_max : (xs : List Span) (a b : Span) → IsNextTo xs a → IsNextTo xs b → IsNextTo xs (span_max a b)
next_max xs a b ha hb = below_max (100000 * reached xs + 100001) a b ha hb
