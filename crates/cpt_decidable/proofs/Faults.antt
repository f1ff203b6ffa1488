-- a table is admissible, or it has a least fault
use Rattle.std.proofs.Common.{◌≡◌, ℕ, ◌<◌, ◌≤◌, ◌⊎◌, inl, inr, length, Contains, subst, arith}
use Rattle.std.proofs.lemmas.Bool.{cases_lt}
use Rattle.cpt_task.specs.declared.task.Action.{Action}
use Rattle.cpt_task.specs.declared.span.Span.{Span}
use Rattle.cpt_task.specs.declared.span.Span.TheVariants.{At, Never}
use Rattle.cpt_task.specs.Interference.{Interferes}
use Rattle.cpt_task.specs.Shape.{TaskShape}
use Rattle.cpt_tables.specs.declared.faults.PairFault.{PairFault}
use Rattle.cpt_tables.specs.declared.faults.DistFault.{DistFault}
use Rattle.cpt_tables.specs.Spans.{◌≤ˢ◌, ◌<ˢ◌, IsFinite}
use Rattle.cpt_tables.specs.Shapes.{PairShape, DistShape, pair_at, dist_at}
use Rattle.cpt_tables.specs.Admissible.{Leaves, IsLimitAtStart, IsLimitByOne, IsLimitBeside, IsLimitByTwo, IsPairLimit, IsAdmissiblePairs, IsAtOnce, IsLimitAfter, IsDistLimit, IsAdmissibleDists, ComesBefore, IsPairFault, IsDistFault, limit_by_one, limit_beside, limit_by_two, limit_after, nth_action}
use Rattle.cpt_tables.specs.Admissible.IsPairLimit.{at_start, by_one, beside, beside_exchanged, by_two}
use Rattle.cpt_tables.specs.Admissible.IsDistLimit.{at_once, later}
use Rattle.cpt_tables.proofs.SpanLemmas.{le_trans, le_cases, lt_not_le}
use Rattle.cpt_tables.proofs.PlaceLemmas.{pair_exchanged}
use Rattle.cpt_tables.proofs.LimitLemmas.{limit_exchanged}
use Rattle.cpt_decidable.specs.Decidable.{IsDecidable}
use Rattle.cpt_decidable.proofs.Deciding.{both, either, denied, is_at_most, are_all_in, is_in_list, first_below, is_some_below}
use Rattle.cpt_decidable.proofs.Leasts.{HasLeast, least_like, least_one, least_where, least_either, least_over}
use Rattle.cpt_decidable.proofs.Plans.{is_interfering}

pub is_earlier : (a b : Span) → IsDecidable (a <ˢ b)
is_earlier a b = elim (le_cases b a) [ inl le ↦ inr (λ lt. lt_not_le a b lt le) | inr lt ↦ inl lt ]

pub is_no_later : (a b : Span) → IsDecidable (a ≤ˢ b)
is_no_later a b = elim (le_cases a b) [ inl le ↦ inl le | inr lt ↦ inr (λ le. lt_not_le b a lt le) ]

is_finite : (a : Span) → IsDecidable (IsFinite a)
is_finite (At n) = inl tt
is_finite Never = inr (λ h. h)

does_leave : (c : Action) (q : ℕ) → IsDecidable (Leaves c q)
does_leave c q = both (denied (is_in_list c.add q)) (denied (is_in_list c.dele q))

start_least : (t : TaskShape) (p q : ℕ) → HasLeast (IsLimitAtStart t p q)
start_least t p q =
    least_like (λ v. Contains t.init p × (Contains t.init q × (v ≡ At 0))) (IsLimitAtStart t p q) (λ v m. (m.0, m.1.0, m.1.1)) (λ v m. (m.0, (m.1, m.2)))
    (least_where (λ v. Contains t.init q × (v ≡ At 0)) (is_in_list t.init p) (least_where (λ v. v ≡ At 0) (is_in_list t.init q) (least_one (At 0))))

one_least : (t : TaskShape) (h : PairShape) (p q : ℕ) → HasLeast (IsLimitByOne t h p q)
one_least t h p q =
    least_like (λ v. (c : Action) × Contains t.actions c × (Contains c.add p × (Contains c.add q × (v ≡ limit_by_one h c)))) (IsLimitByOne t h p q)
    (λ v m. (m.0, m.1, m.2.0, m.2.1.0, m.2.1.1)) (λ v m. (m.0, m.1, (m.2, (m.3, m.4))))
    (least_over (λ (c : Action) v. Contains c.add p × (Contains c.add q × (v ≡ limit_by_one h c)))
    (λ c. least_where (λ v. Contains c.add q × (v ≡ limit_by_one h c)) (is_in_list c.add p) (least_where (λ v. v ≡ limit_by_one h c) (is_in_list c.add q) (least_one (limit_by_one h c)))) t.actions)

beside_least : (t : TaskShape) (h : PairShape) (p q : ℕ) → HasLeast (IsLimitBeside t h p q)
beside_least t h p q =
    least_like (λ v. (c : Action) × Contains t.actions c × (Contains c.add p × (Leaves c q × (v ≡ limit_beside h c q)))) (IsLimitBeside t h p q)
    (λ v m. (m.0, m.1, m.2.0, m.2.1.0, m.2.1.1)) (λ v m. (m.0, m.1, (m.2, (m.3, m.4))))
    (least_over (λ (c : Action) v. Contains c.add p × (Leaves c q × (v ≡ limit_beside h c q)))
    (λ c. least_where (λ v. Leaves c q × (v ≡ limit_beside h c q)) (is_in_list c.add p) (least_where (λ v. v ≡ limit_beside h c q) (does_leave c q) (least_one (limit_beside h c q)))) t.actions)

-- what two actions give
abbrev OfTwo : PairShape → ℕ → ℕ → Action → Action → Span → Type 0
OfTwo h p q c d v = (Interferes c d → ⊥) × (Contains c.add p × (Contains d.add q × (v ≡ limit_by_two h c d)))

two_least : (t : TaskShape) (h : PairShape) (p q : ℕ) → HasLeast (IsLimitByTwo t h p q)
two_least t h p q =
    least_like (λ v. (c : Action) × Contains t.actions c × ((d : Action) × Contains t.actions d × OfTwo h p q c d v)) (IsLimitByTwo t h p q)
    (λ v m. (m.0, m.2.0, m.1, m.2.1, m.2.2.0, m.2.2.1.0, m.2.2.1.1.0, m.2.2.1.1.1)) (λ v m. (m.0, m.2, (m.1, m.3, (m.4, (m.5, (m.6, m.7))))))
    (least_over (λ (c : Action) v. (d : Action) × Contains t.actions d × OfTwo h p q c d v) (λ c. least_over (OfTwo h p q c) (λ d. each c d) t.actions) t.actions)
  where
    each : (c d : Action) → HasLeast (OfTwo h p q c d)
    each c d =
        least_where (λ v. Contains c.add p × (Contains d.add q × (v ≡ limit_by_two h c d))) (denied (is_interfering c d))
        (least_where (λ v. Contains d.add q × (v ≡ limit_by_two h c d)) (is_in_list c.add p) (least_where (λ v. v ≡ limit_by_two h c d) (is_in_list d.add q) (least_one (limit_by_two h c d))))

-- the right sides of two atoms
abbrev PairCases : TaskShape → PairShape → ℕ → ℕ → Span → Type 0
PairCases t h p q v = IsLimitAtStart t p q v ⊎ (IsLimitByOne t h p q v ⊎ (IsLimitBeside t h p q v ⊎ (IsLimitBeside t h q p v ⊎ IsLimitByTwo t h p q v)))

limit_of_case : (t : TaskShape) (h : PairShape) (p q : ℕ) (v : Span) → PairCases t h p q v → IsPairLimit t h p q v
limit_of_case t h p q v (inl m) = at_start m
limit_of_case t h p q v (inr (inl m)) = by_one m
limit_of_case t h p q v (inr (inr (inl m))) = beside m
limit_of_case t h p q v (inr (inr (inr (inl m)))) = beside_exchanged m
limit_of_case t h p q v (inr (inr (inr (inr m)))) = by_two m

case_of_limit : (t : TaskShape) (h : PairShape) (p q : ℕ) (v : Span) → IsPairLimit t h p q v → PairCases t h p q v
case_of_limit t h p q v (at_start m) = inl m
case_of_limit t h p q v (by_one m) = inr (inl m)
case_of_limit t h p q v (beside m) = inr (inr (inl m))
case_of_limit t h p q v (beside_exchanged m) = inr (inr (inr (inl m)))
case_of_limit t h p q v (by_two m) = inr (inr (inr (inr m)))

pub pair_least : (t : TaskShape) (h : PairShape) (p q : ℕ) → HasLeast (IsPairLimit t h p q)
pair_least t h p q =
    least_like (PairCases t h p q) (IsPairLimit t h p q) (limit_of_case t h p q) (case_of_limit t h p q)
    (least_either (IsLimitAtStart t p q) (λ v. IsLimitByOne t h p q v ⊎ (IsLimitBeside t h p q v ⊎ (IsLimitBeside t h q p v ⊎ IsLimitByTwo t h p q v))) (start_least t p q)
    (least_either (IsLimitByOne t h p q) (λ v. IsLimitBeside t h p q v ⊎ (IsLimitBeside t h q p v ⊎ IsLimitByTwo t h p q v)) (one_least t h p q)
    (least_either (IsLimitBeside t h p q) (λ v. IsLimitBeside t h q p v ⊎ IsLimitByTwo t h p q v) (beside_least t h p q)
    (least_either (IsLimitBeside t h q p) (IsLimitByTwo t h p q) (beside_least t h q p) (two_least t h p q)))))

-- a pair whose value is above its least right side
abbrev IsBadPair : TaskShape → PairShape → ℕ → ℕ → Type 0
IsBadPair t h p q = (p ≤ q) × ((pair_least t h p q).0 <ˢ pair_at h p q)

is_bad_pair : (t : TaskShape) (h : PairShape) (p q : ℕ) → IsDecidable (IsBadPair t h p q)
is_bad_pair t h p q = both (is_at_most p q) (is_earlier (pair_least t h p q).0 (pair_at h p q))

pair_fine : (t : TaskShape) (h : PairShape) (p q : ℕ) → p ≤ q → (IsBadPair t h p q → ⊥) → (v : Span) → IsPairLimit t h p q v → pair_at h p q ≤ˢ v
pair_fine t h p q le none v m = elim (le_cases (pair_at h p q) (pair_least t h p q).0) [
  | inl low ↦ le_trans (pair_at h p q) (pair_least t h p q).0 v low ((pair_least t h p q).1.least v m)
  | inr lt ↦ absurd (none (le, lt))
]

pub pairs_ruled : (t : TaskShape) (h : PairShape) → IsAdmissiblePairs t h ⊎ ((f : PairFault) × IsPairFault t h f)
pairs_ruled t h = rows (first_below (λ p. (q : ℕ) × (q < n) × IsBadPair t h p q) (λ p. is_some_below (IsBadPair t h p) (is_bad_pair t h p) n) n)
  where
    n : ℕ
    n = length t.atoms

    ordered : ((p : ℕ) → p < n → ((q : ℕ) × (q < n) × IsBadPair t h p q) → ⊥) → (p q : ℕ) → p < n → q < n → ((p ≤ q) ⊎ (q ≤ p)) → (v : Span) → IsPairLimit t h p q v → pair_at h p q ≤ˢ v
    ordered none p q lp lq (inl le) v m = pair_fine t h p q le (λ bad. none p lp (q, lq, bad)) v m
    ordered none p q lp lq (inr le) v m = subst (λ z. z ≤ˢ v) (pair_exchanged h q p) (pair_fine t h q p le (λ bad. none q lq (p, lp, bad)) v (limit_exchanged t h p q v m))

    total : (p q : ℕ) → (p ≤ q) ⊎ (q ≤ p)
    total p q = elim (cases_lt p q) [ inl l ↦ inl (omega (arith, l)) | inr m ↦ inr m ]

    fault : (p q : ℕ) → q < n → IsBadPair t h p q → ((r : ℕ) → r < p → ((s : ℕ) × (s < n) × IsBadPair t h r s) → ⊥) → ((s : ℕ) → s < q → IsBadPair t h p s → ⊥) → IsPairFault t h (record { p = p; q = q; most = (pair_least t h p q).0 })
    fault p q lq bad none_before none_first = record {
      ordered = bad.0;
      within = lq;
      least = (pair_least t h p q).1;
      above = bad.1;
      first = λ r s le ls before v m. earlier r s le ls before v m;
    }
      where
        earlier : (r s : ℕ) → r ≤ s → s < n → ComesBefore r s p q → (v : Span) → IsPairLimit t h r s v → pair_at h r s ≤ˢ v
        earlier r s le ls (inl lt) v m = pair_fine t h r s le (λ b. none_before r lt (s, ls, b)) v m
        earlier r s le ls (inr e) v m = pair_fine t h r s le (λ b. none_first s e.1 (subst (λ z. IsBadPair t h z s) e.0 b)) v m

    row : (p : ℕ) → ((q : ℕ) × (q < n) × IsBadPair t h p q) → ((r : ℕ) → r < p → ((s : ℕ) × (s < n) × IsBadPair t h r s) → ⊥)
        → (((q : ℕ) × (q < n) × IsBadPair t h p q × ((s : ℕ) → s < q → IsBadPair t h p s → ⊥)) ⊎ ((q : ℕ) → q < n → IsBadPair t h p q → ⊥)) → (f : PairFault) × IsPairFault t h f
    row p some before (inl g) = (record { p = p; q = g.0; most = (pair_least t h p g.0).0 }, fault p g.0 g.1 g.2 before g.3)
    row p some before (inr none) = absurd (none some.0 some.1 some.2)

    rows : (((p : ℕ) × (p < n) × ((q : ℕ) × (q < n) × IsBadPair t h p q) × ((r : ℕ) → r < p → ((s : ℕ) × (s < n) × IsBadPair t h r s) → ⊥)) ⊎ ((p : ℕ) → p < n → ((q : ℕ) × (q < n) × IsBadPair t h p q) → ⊥))
        → IsAdmissiblePairs t h ⊎ ((f : PairFault) × IsPairFault t h f)
    rows (inl g) = inr (row g.0 g.2 g.3 (first_below (IsBadPair t h g.0) (is_bad_pair t h g.0) n))
    rows (inr none) = inl (λ p q lp lq v m. ordered none p q lp lq (total p q) v m)

-- distances
is_at_once : (h : PairShape) (a : Action) (p : ℕ) → IsDecidable (IsAtOnce h a p)
is_at_once h a p = either (is_in_list a.add p) (both (denied (is_in_list a.dele p)) (are_all_in (λ r. IsFinite (pair_at h p r)) (λ r. is_finite (pair_at h p r)) a.add))

after_least : (t : TaskShape) (d : DistShape) (a p : ℕ) → HasLeast (IsLimitAfter t d a p)
after_least t d a p =
    least_like (λ v. (c : Action) × Contains t.actions c × (Contains c.add p × (v ≡ limit_after d a c))) (IsLimitAfter t d a p) (λ v m. (m.0, m.1, m.2.0, m.2.1)) (λ v m. (m.0, m.1, (m.2, m.3)))
    (least_over (λ (c : Action) v. Contains c.add p × (v ≡ limit_after d a c)) (λ c. least_where (λ v. v ≡ limit_after d a c) (is_in_list c.add p) (least_one (limit_after d a c))) t.actions)

-- the right sides of a distance
abbrev DistCases : TaskShape → PairShape → DistShape → ℕ → ℕ → Span → Type 0
DistCases t h d a p v = (IsAtOnce h (nth_action t a) p × (v ≡ At 0)) ⊎ ((IsAtOnce h (nth_action t a) p → ⊥) × IsLimitAfter t d a p v)

dist_of_case : (t : TaskShape) (h : PairShape) (d : DistShape) (a p : ℕ) (v : Span) → DistCases t h d a p v → IsDistLimit t h d a p v
dist_of_case t h d a p v (inl m) = at_once m.0 m.1
dist_of_case t h d a p v (inr m) = later m.0 m.1

case_of_dist : (t : TaskShape) (h : PairShape) (d : DistShape) (a p : ℕ) (v : Span) → IsDistLimit t h d a p v → DistCases t h d a p v
case_of_dist t h d a p v (at_once m e) = inl (m, e)
case_of_dist t h d a p v (later none m) = inr (none, m)

pub dist_least : (t : TaskShape) (h : PairShape) (d : DistShape) (a p : ℕ) → HasLeast (IsDistLimit t h d a p)
dist_least t h d a p =
    let known = is_at_once h (nth_action t a) p in
    least_like (DistCases t h d a p) (IsDistLimit t h d a p) (dist_of_case t h d a p) (case_of_dist t h d a p)
    (least_either (λ v. IsAtOnce h (nth_action t a) p × (v ≡ At 0)) (λ v. (IsAtOnce h (nth_action t a) p → ⊥) × IsLimitAfter t d a p v)
    (least_where (λ v. v ≡ At 0) known (least_one (At 0))) (least_where (IsLimitAfter t d a p) (denied known) (after_least t d a p)))

-- a distance that is above its least right side
abbrev IsBadDist : TaskShape → PairShape → DistShape → ℕ → ℕ → Type 0
IsBadDist t h d a p = (dist_least t h d a p).0 <ˢ dist_at d a p

is_bad_dist : (t : TaskShape) (h : PairShape) (d : DistShape) (a p : ℕ) → IsDecidable (IsBadDist t h d a p)
is_bad_dist t h d a p = is_earlier (dist_least t h d a p).0 (dist_at d a p)

dist_fine : (t : TaskShape) (h : PairShape) (d : DistShape) (a p : ℕ) → (IsBadDist t h d a p → ⊥) → (v : Span) → IsDistLimit t h d a p v → dist_at d a p ≤ˢ v
dist_fine t h d a p none v m = elim (le_cases (dist_at d a p) (dist_least t h d a p).0) [
  | inl low ↦ le_trans (dist_at d a p) (dist_least t h d a p).0 v low ((dist_least t h d a p).1.least v m)
  | inr lt ↦ absurd (none lt)
]

pub dists_ruled : (t : TaskShape) (h : PairShape) (d : DistShape) → IsAdmissibleDists t h d ⊎ ((f : DistFault) × IsDistFault t h d f)
dists_ruled t h d = rows (first_below (λ a. (p : ℕ) × (p < n) × IsBadDist t h d a p) (λ a. is_some_below (IsBadDist t h d a) (is_bad_dist t h d a) n) k)
  where
    n : ℕ
    n = length t.atoms

    k : ℕ
    k = length t.actions

    fault : (a p : ℕ) → a < k → p < n → IsBadDist t h d a p → ((b : ℕ) → b < a → ((s : ℕ) × (s < n) × IsBadDist t h d b s) → ⊥) → ((s : ℕ) → s < p → IsBadDist t h d a s → ⊥)
        → IsDistFault t h d (record { act = a; atom = p; most = (dist_least t h d a p).0 })
    fault a p la lp bad none_before none_first = record {
      action = la;
      within = lp;
      least = (dist_least t h d a p).1;
      above = bad;
      first = λ b s lb ls before v m. earlier b s lb ls before v m;
    }
      where
        earlier : (b s : ℕ) → b < k → s < n → ComesBefore b s a p → (v : Span) → IsDistLimit t h d b s v → dist_at d b s ≤ˢ v
        earlier b s lb ls (inl lt) v m = dist_fine t h d b s (λ x. none_before b lt (s, ls, x)) v m
        earlier b s lb ls (inr e) v m = dist_fine t h d b s (λ x. none_first s e.1 (subst (λ z. IsBadDist t h d z s) e.0 x)) v m

    row : (a : ℕ) → a < k → ((p : ℕ) × (p < n) × IsBadDist t h d a p) → ((b : ℕ) → b < a → ((s : ℕ) × (s < n) × IsBadDist t h d b s) → ⊥)
        → (((p : ℕ) × (p < n) × IsBadDist t h d a p × ((s : ℕ) → s < p → IsBadDist t h d a s → ⊥)) ⊎ ((p : ℕ) → p < n → IsBadDist t h d a p → ⊥)) → (f : DistFault) × IsDistFault t h d f
    row a la some before (inl g) = (record { act = a; atom = g.0; most = (dist_least t h d a g.0).0 }, fault a g.0 la g.1 g.2 before g.3)
    row a la some before (inr none) = absurd (none some.0 some.1 some.2)

    rows : (((a : ℕ) × (a < k) × ((p : ℕ) × (p < n) × IsBadDist t h d a p) × ((b : ℕ) → b < a → ((s : ℕ) × (s < n) × IsBadDist t h d b s) → ⊥)) ⊎ ((a : ℕ) → a < k → ((p : ℕ) × (p < n) × IsBadDist t h d a p) → ⊥))
        → IsAdmissibleDists t h d ⊎ ((f : DistFault) × IsDistFault t h d f)
    rows (inl g) = inr (row g.0 g.1 g.2 g.3 (first_below (IsBadDist t h d g.0) (is_bad_dist t h d g.0) n))
    rows (inr none) = inl (λ a p la lp v m. dist_fine t h d a p (λ x. none a la (p, lp, x)) v m)
