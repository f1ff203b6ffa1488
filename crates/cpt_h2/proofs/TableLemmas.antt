-- from met rules to the greatest admissible table
use Rattle.std.proofs.Common.{◌≡◌, ℕ, suc, ◌+◌, ◌*◌, ◌<◌, ◌≤◌, ◌⊎◌, min, inl, inr, List, ◌++◌, length, get_or, replicate, All, Contains, refl, sym, ap, subst, ◌∙◌, arith}
use Rattle.std.proofs.lemmas.List.{get_or_default, get_or-replicate, length-replicate}
use Rattle.std.proofs.lemmas.List.Elements.{All-contains, All-replicate, Contains-append_left, Contains-append_right, Contains-append_cases}
use Rattle.cpt_task.specs.declared.span.Span.{Span}
use Rattle.cpt_task.specs.declared.span.Span.TheVariants.{At, Never}
use Rattle.cpt_task.specs.declared.task.Action.{Action}
use Rattle.cpt_task.specs.Shape.{TaskShape, InBounds}
use Rattle.cpt_task.specs.Interference.{Interferes}
use Rattle.cpt_task.specs.Timeline.{idle}
use Rattle.cpt_tables.specs.Spans.{◌≤ˢ◌, ◌+ˢ◌, span_max, IsBelow}
use Rattle.cpt_tables.specs.Shapes.{PairShape, pair_at, pair_place, row_start, pairs_of, set_span_of, FitsPairs}
use Rattle.cpt_tables.specs.Admissible.{limit_by_one, limit_beside, limit_by_two, IsPairLimit, IsAdmissiblePairs}
use Rattle.cpt_tables.specs.Admissible.IsPairLimit.{at_start, by_one, beside as beside_atom, beside_exchanged, by_two}
use Rattle.cpt_tables.specs.Greatest.{IsGreatestPairs}
use Rattle.cpt_tables.proofs.SpanLemmas.{le_refl, le_trans, le_never, max_left, max_right, max_le, add_mono}
use Rattle.cpt_tables.proofs.SpanLemmas as Spans
use Rattle.cpt_tables.proofs.PlaceLemmas.{place_within, pair_exchanged}
use Rattle.cpt_tables.specs.Weights.{value_at, reached, IsSmall, IsNextTo}
use Rattle.cpt_h2.specs.Board.{IsUnder, BoardShape, IsGood, IsWithin, Drops, AllBelow}
use Rattle.cpt_h2.specs.Rules.{Concerns, IsMet, IsRuleAt, action_of}
use Rattle.cpt_h2.specs.Rules.Rule.{one, beside, two}
use Rattle.cpt_h2.specs.Rules.IsRuleAt.{by_itself, with_atom, with_action}
use Rattle.cpt_h2.specs.Rounds.{MeetsAll, Relaxes}
use Rattle.cpt_tables.proofs.WeightLemmas.{reached_few}
use Rattle.cpt_h2.proofs.BoardLemmas.{places_few}
use Rattle.cpt_h2.proofs.LimitLemmas.{le_across, across_le, all_of}

-- the limit of two actions in the other order
two_exchanged : (h : PairShape) (c d : Action) → limit_by_two h d c ≤ˢ limit_by_two h c d
two_exchanged h c d =
    max_le (limit_by_one h d) (span_max (limit_by_one h c) (set_span_of h (d.pre ++ c.pre) +ˢ At (min d.dur c.dur))) top
    (le_trans (limit_by_one h d) rest top (max_left (limit_by_one h d) both) (max_right (limit_by_one h c) rest))
    (max_le (limit_by_one h c) (set_span_of h (d.pre ++ c.pre) +ˢ At (min d.dur c.dur)) top (max_left (limit_by_one h c) rest)
    (subst (λ k. set_span_of h (d.pre ++ c.pre) +ˢ At k ≤ˢ top) swap
    (le_trans (set_span_of h (d.pre ++ c.pre) +ˢ At (min c.dur d.dur)) both top (add_mono (set_span_of h (d.pre ++ c.pre)) (set_span_of h (c.pre ++ d.pre)) (At (min c.dur d.dur)) spans)
    (le_trans both rest top (max_right (limit_by_one h d) both) (max_right (limit_by_one h c) rest)))))
  where
    both : Span
    both = set_span_of h (c.pre ++ d.pre) +ˢ At (min c.dur d.dur)

    rest : Span
    rest = span_max (limit_by_one h d) both

    top : Span
    top = span_max (limit_by_one h c) rest

    swap : min c.dur d.dur ≡ min d.dur c.dur
    swap = omega arith

    turn : (x : ℕ) → Contains d.pre x ⊎ Contains c.pre x → Contains (c.pre ++ d.pre) x
    turn x (inl k) = Contains-append_right c.pre d.pre x k
    turn x (inr k) = Contains-append_left c.pre d.pre x k

    spans : set_span_of h (d.pre ++ c.pre) ≤ˢ set_span_of h (c.pre ++ d.pre)
    spans = across_le h (d.pre ++ c.pre) (d.pre ++ c.pre) (set_span_of h (c.pre ++ d.pre)) (λ x y hx hy.
        le_across h (c.pre ++ d.pre) (c.pre ++ d.pre) x y (turn x (Contains-append_cases d.pre c.pre x hx)) (turn y (Contains-append_cases d.pre c.pre y hy)))

interferes_exchanged : (c d : Action) → Interferes d c → Interferes c d
interferes_exchanged c d (inl h) = inr h
interferes_exchanged c d (inr h) = inl h

pub within_task : (t : TaskShape) → InBounds t → All (IsWithin (length t.atoms)) t.actions
within_task t bounds k d lt = record { atoms = bounds.actions k d lt; duration = bounds.durations k d lt }

-- an admissible table meets each rule
pub meets_if_admissible : (t : TaskShape) (g : PairShape) → InBounds t → IsAdmissiblePairs t g → MeetsAll t.actions (length t.atoms) g
meets_if_admissible t g bounds good r (k, lt, is) = go is
  where
    c : Action
    c = action_of t.actions k

    has : (j : ℕ) → j < length t.actions → Contains t.actions (action_of t.actions j)
    has j lj = (j, lj, get_or_default t.actions j (action_of t.actions j) idle lj)

    adds : (j p : ℕ) → j < length t.actions → Contains (action_of t.actions j).add p → p < length t.atoms
    adds j p lj h = All-contains (λ q. q < length t.atoms) (action_of t.actions j).add p (bounds.actions j idle lj).add h

    go : IsRuleAt t.actions (length t.atoms) k r → IsMet g r
    go (by_itself e) = subst (IsMet g) (sym e) (λ p q con. good p q (adds k p lt con.0) (adds k q lt con.1) (limit_by_one g c) (by_one (c, has k lt, con.0, con.1, refl)))
    go (with_atom (a, la, e)) = subst (IsMet g) (sym e) (λ p q con. subst (λ x. pair_at g p x ≤ˢ limit_beside g c a) (sym con.2) (good p a (adds k p lt con.0) la (limit_beside g c a) (beside_atom (c, has k lt, con.0, con.1, refl))))
    go (with_action (j, lj, e)) =
        let less : j < length t.actions = omega (arith, lj, lt) in
        subst (IsMet g) (sym e) (λ p q con. good p q (adds k p lt con.0) (adds j q less con.1) (limit_by_two g c (action_of t.actions j)) (by_two (c, action_of t.actions j, has k lt, has j less, con.2, con.0, con.1, refl)))

-- a table that meets each rule is admissible, where it is 0 at the initial atoms
pub admissible_if_met : (t : TaskShape) (h : PairShape) → MeetsAll t.actions (length t.atoms) h → AllBelow h t.init t.init (At 0) → IsAdmissiblePairs t h
admissible_if_met t h met init p q lp lq v limit = go limit
  where
    named : (c : Action) (k : ℕ) → k < length t.actions → get_or t.actions k c ≡ c → action_of t.actions k ≡ c
    named c k lt e = get_or_default t.actions k idle c lt ∙ e

    met_two : (k j : ℕ) (c d : Action) (x y : ℕ) → k < length t.actions → j < suc k → action_of t.actions k ≡ c → action_of t.actions j ≡ d → Concerns (two c d) x y → pair_at h x y ≤ˢ limit_by_two h c d
    met_two k j c d x y lk lj ec ed con = met (two c d) (k, lk, with_action (j, lj, ap (λ a. two a d) (sym ec) ∙ ap (λ a. two (action_of t.actions k) a) (sym ed))) x y con

    go : IsPairLimit t h p q v → pair_at h p q ≤ˢ v
    go (at_start s) = subst (λ x. pair_at h p q ≤ˢ x) (sym s.2) (All-contains (λ y. pair_at h p y ≤ˢ At 0) t.init q (All-contains (λ x. All (λ y. pair_at h x y ≤ˢ At 0) t.init) t.init p init s.0) s.1)
    go (by_one (c, (k, lt, e), hp, hq, is)) = subst (λ x. pair_at h p q ≤ˢ x) (sym is) (met (one c) (k, lt, by_itself (ap one (sym (named c k lt e)))) p q (hp, hq))
    go (beside_atom (c, (k, lt, e), hp, leaves, is)) = subst (λ x. pair_at h p q ≤ˢ x) (sym is) (met (beside c q) (k, lt, with_atom (q, lq, ap (λ a. beside a q) (sym (named c k lt e)))) p q (hp, leaves, refl))
    go (beside_exchanged (c, (k, lt, e), hq, leaves, is)) = subst (λ x. pair_at h p q ≤ˢ x) (sym is)
        (subst (λ x. x ≤ˢ limit_beside h c p) (pair_exchanged h q p) (met (beside c p) (k, lt, with_atom (p, lp, ap (λ a. beside a p) (sym (named c k lt e)))) q p (hq, leaves, refl)))
    go (by_two (c, d, (k, lk, ec), (j, lj, ed), apart, hp, hq, is)) = subst (λ x. pair_at h p q ≤ˢ x) (sym is) (elim (order j k) [
      | inl less ↦ met_two k j c d p q lk less (named c k lk ec) (named d j lj ed) (hp, hq, apart)
      | inr less ↦ le_trans (pair_at h p q) (limit_by_two h d c) (limit_by_two h c d)
          (subst (λ x. x ≤ˢ limit_by_two h d c) (pair_exchanged h q p) (met_two j k d c q p lj less (named d j lj ed) (named c k lk ec) (hq, hp, λ i. apart (interferes_exchanged c d i))))
          (two_exchanged h c d)
    ])
      where
        order : (m n : ℕ) → (m < suc n) ⊎ (n < suc m)
        order m n = grind arith

-- a board without values
pub good_empty : (b : BoardShape) (n : ℕ) → n ≤ 2048 → b.pairs ≡ pairs_of n Never → length b.marks.atoms ≡ n → IsGood b
good_empty b n few e size = record {
  places = subst (λ (h : PairShape). length h.values ≡ row_start h.atoms) (sym e) (length-replicate (row_start n) Never);
  marks = size ∙ ap (λ (h : PairShape). h.atoms) (sym e);
  few = subst (λ (h : PairShape). h.atoms ≤ 2048) (sym e) few;
  small = subst (λ (h : PairShape). IsSmall h.values) (sym e) (All-replicate (IsBelow (100000 * reached (replicate (row_start n) Never) + 1)) (row_start n) Never tt);
}

under_empty : (g : PairShape) (n : ℕ) → IsUnder g.values (replicate (row_start n) Never)
under_empty g n k lt = subst (λ x. value_at g.values k ≤ˢ x) (sym (get_or-replicate (row_start n) k Never Never (subst (λ m. k < m) (length-replicate (row_start n) Never) lt))) (le_never (value_at g.values k))

pub zero_next : (xs : List Span) → IsNextTo xs (At 0)
zero_next xs = omega arith

-- the whole way
pub greatest_by_rules : (t : TaskShape) (empty begun new : BoardShape) → InBounds t → empty.pairs ≡ pairs_of (length t.atoms) Never
    → Drops (λ g. AllBelow g t.init t.init (At 0)) empty begun → AllBelow begun.pairs t.init t.init (At 0) → Relaxes t.actions begun new → IsGreatestPairs t new.pairs
greatest_by_rules t empty begun new bounds e drops init relaxed = record {
  admissible = admissible_if_met t new.pairs (subst (λ n. MeetsAll t.actions n new.pairs) size relaxed.met)
      (all_of (λ p. All (λ q. pair_at new.pairs p q ≤ˢ At 0) t.init) t.init (λ p hp. all_of (λ q. pair_at new.pairs p q ≤ˢ At 0) t.init (λ q hq.
      le_trans (pair_at new.pairs p q) (pair_at begun.pairs p q) (At 0) (relaxed.sinks.under (pair_place p q))
      (All-contains (λ y. pair_at begun.pairs p y ≤ˢ At 0) t.init q (All-contains (λ x. All (λ y. pair_at begun.pairs x y ≤ˢ At 0) t.init) t.init p init hp) hq))));
  greatest = λ g good p q lp lq. under g good (pair_place p q) (subst (λ k. pair_place p q < k) (sym (relaxed.sinks.good.places ∙ ap row_start (relaxed.sinks.size ∙ size))) (place_within (length t.atoms) p q lp lq));
}
  where
    size : begun.pairs.atoms ≡ length t.atoms
    size = drops.size ∙ ap (λ (h : PairShape). h.atoms) e

    zero_at_init : (g : PairShape) → IsAdmissiblePairs t g → AllBelow g t.init t.init (At 0)
    zero_at_init g good = all_of (λ p. All (λ q. pair_at g p q ≤ˢ At 0) t.init) t.init (λ p hp. all_of (λ q. pair_at g p q ≤ˢ At 0) t.init (λ q hq.
        good p q (All-contains (λ x. x < length t.atoms) t.init p bounds.init hp) (All-contains (λ x. x < length t.atoms) t.init q bounds.init hq) (At 0) (at_start (hp, hq, refl))))

    under : (g : PairShape) → IsAdmissiblePairs t g → IsUnder g.values new.pairs.values
    under g good = relaxed.sinks.above g (subst (λ n. MeetsAll t.actions n g) (sym size) (meets_if_admissible t g bounds good))
        (drops.above g (zero_at_init g good) (subst (λ (h : PairShape). IsUnder g.values h.values) (sym e) (under_empty g (length t.atoms))))

pub fits_by_good : (t : TaskShape) (b : BoardShape) → IsGood b → b.pairs.atoms ≡ length t.atoms → FitsPairs t b.pairs
fits_by_good t b good e = record { size = e; small = small }
  where
    small : (p q : ℕ) → p < b.pairs.atoms → q < b.pairs.atoms → IsBelow 1000000000000000 (pair_at b.pairs p q)
    small p q lp lq =
        let count : reached b.pairs.values ≤ length b.pairs.values = reached_few b.pairs.values in
        let few : length b.pairs.values ≤ 8388608 = places_few b good in
        Spans.below_more (100000 * reached b.pairs.values + 1) 1000000000000000 (pair_at b.pairs p q) (omega (arith, count, few))
        (good.small (pair_place p q) Never (subst (λ n. pair_place p q < n) (sym good.places) (place_within b.pairs.atoms p q lp lq)))
