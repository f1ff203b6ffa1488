-- the right sides of pairs, and those that the code takes
use Rattle.std.proofs.Common.{◌≡◌, ℕ, ◌<◌, ◌≤◌, ◌⊎◌, max, min, inl, inr, Some, None, length, Contains, refl, sym, ap, subst, ◌∙◌, arith}
use Rattle.std.proofs.lemmas.Bool.{cases_lt}
use Rattle.std.proofs.lemmas.List.Elements.{All-contains}
use Rattle.std.proofs.lemmas.List.{get_or_default}
use Rattle.cpt_task.specs.declared.span.Span.{Span}
use Rattle.cpt_task.specs.declared.task.Action.{Action}
use Rattle.cpt_task.specs.Shape.{TaskShape, InBounds}
use Rattle.cpt_task.specs.Interference.{Interferes}
use Rattle.cpt_task.specs.Timeline.{idle}
use Rattle.cpt_tables.specs.Spans.{◌≤ˢ◌, ◌<ˢ◌}
use Rattle.cpt_tables.specs.Shapes.{PairShape, pair_at, FitsPairs}
use Rattle.cpt_tables.specs.Admissible.{Leaves, limit_by_one, limit_beside, IsLimitAtStart, IsLimitBeside, IsPairLimit, IsAdmissiblePairs, nth_action, IsLeast, ComesBefore, IsPairFault}
use Rattle.cpt_tables.specs.Admissible.IsPairLimit.{at_start, by_one, beside, beside_exchanged, by_two}
use Rattle.cpt_tables.specs.Scans.{OfPair, ScansPairs, sorted, IsAmongBoth, IsBesideOne, IsOfTwo, IsOfTask, IsOneHere, IsBesideHere, IsTwoHere, IsActionHere}
use Rattle.cpt_tables.specs.declared.search.Pair.{Pair}
use Rattle.cpt_tables.proofs.SpanLemmas.{le_lt}
use Rattle.cpt_tables.proofs.SetLemmas.{two_exchanged}
use Rattle.cpt_tables.proofs.PlaceLemmas.{pair_exchanged}
use Rattle.cpt_tables.proofs.TaskLemmas.{nth_contained}

-- the number of an action of the task
pub number_of_action : (t : TaskShape) (c : Action) → Contains t.actions c → (i : ℕ) × (i < length t.actions) × (c ≡ nth_action t i)
number_of_action t c has = (has.0, has.1, sym has.2 ∙ get_or_default t.actions has.0 c idle has.1)

turned : (c d : Action) → (Interferes c d → ⊥) → Interferes d c → ⊥
turned c d none i = elim i [ inl e ↦ none (inr e) | inr e ↦ none (inl e) ]

pub limit_exchanged : (t : TaskShape) (h : PairShape) (p q : ℕ) (v : Span) → IsPairLimit t h p q v → IsPairLimit t h q p v
limit_exchanged t h p q v (at_start m) = at_start (m.1, m.0, m.2)
limit_exchanged t h p q v (by_one m) = by_one (m.0, m.1, m.3, m.2, m.4)
limit_exchanged t h p q v (beside m) = beside_exchanged m
limit_exchanged t h p q v (beside_exchanged m) = beside m
limit_exchanged t h p q v (by_two m) = by_two (m.1, m.0, m.3, m.2, turned m.0 m.1 m.4, m.6, m.5, m.7 ∙ two_exchanged h m.0 m.1)

pub limit_sorted : (t : TaskShape) (h : PairShape) (p q : ℕ) (v : Span) → IsPairLimit t h p q v → IsPairLimit t h (min p q) (max p q) v
limit_sorted t h p q v m = go (cases_lt q p)
  where
    go : ((q < p) ⊎ (p ≤ q)) → IsPairLimit t h (min p q) (max p q) v
    go (inl lt) =
        let low : min p q ≡ q = omega arith in
        let high : max p q ≡ p = omega arith in
        rw (low, high) (limit_exchanged t h p q v m)
    go (inr le) =
        let low : min p q ≡ p = omega arith in
        let high : max p q ≡ q = omega arith in
        rw (low, high) m

pub pair_sorted : (h : PairShape) (p q : ℕ) → pair_at h (min p q) (max p q) ≡ pair_at h p q
pair_sorted h p q = go (cases_lt q p)
  where
    go : ((q < p) ⊎ (p ≤ q)) → pair_at h (min p q) (max p q) ≡ pair_at h p q
    go (inl lt) =
        let low : min p q ≡ q = omega arith in
        let high : max p q ≡ p = omega arith in
        ap (λ a. pair_at h a (max p q)) low ∙ ap (λ b. pair_at h q b) high ∙ pair_exchanged h q p
    go (inr le) =
        let low : min p q ≡ p = omega arith in
        let high : max p q ≡ q = omega arith in
        ap (λ a. pair_at h a (max p q)) low ∙ ap (λ b. pair_at h p b) high

-- what the code looks at are right sides
pub limit_from_task : (t : TaskShape) (h : PairShape) (p q : ℕ) (v : Span) → IsOfTask t h p q v → IsPairLimit t h p q v
limit_from_task t h p q v (inl m) = at_start m
limit_from_task t h p q v (inr (i, lt, inl (inl m))) = by_one (nth_action t i, nth_contained t i lt, m.0, m.1, m.2)
limit_from_task t h p q v (inr (i, lt, inl (inr m))) = beside_exchanged (nth_action t i, nth_contained t i lt, m.2.1.1, subst (Leaves (nth_action t i)) (sym m.2.1.0) m.2.0, m.2.1.2 ∙ ap (limit_beside h (nth_action t i)) (sym m.2.1.0))
limit_from_task t h p q v (inr (i, lt, inr m)) = by_two (nth_action t i, nth_action t m.0, nth_contained t i lt, nth_contained t m.0 m.1, m.3.0, m.3.1.0, m.3.1.1, m.3.1.2)

-- a number of an action of the task is that of an action in bounds
pub adds_below : (t : TaskShape) (i p : ℕ) → InBounds t → i < length t.actions → Contains (nth_action t i).add p → p < length t.atoms
adds_below t i p b lt has = All-contains (λ r. r < length t.atoms) (nth_action t i).add p (b.actions i idle lt).add has

pub task_below : (t : TaskShape) (h : PairShape) (p q : ℕ) (v : Span) → InBounds t → FitsPairs t h → IsOfTask t h p q v → (p < length t.atoms) × (q < length t.atoms)
task_below t h p q v b f (inl m) = (All-contains (λ r. r < length t.atoms) t.init p b.init m.0, All-contains (λ r. r < length t.atoms) t.init q b.init m.1)
task_below t h p q v b f (inr (i, lt, inl (inl m))) = (adds_below t i p b lt m.0, adds_below t i q b lt m.1)
task_below t h p q v b f (inr (i, lt, inl (inr m))) =
    (let at : m.0 < h.atoms = m.1 in let same : p ≡ m.0 = m.2.1.0 in let size : h.atoms ≡ length t.atoms = f.size in omega (arith, at, same, size), adds_below t i q b lt m.2.1.1)
task_below t h p q v b f (inr (i, lt, inr m)) = (adds_below t i p b lt m.3.1.0, adds_below t m.0 q b m.1 m.3.1.1)

same : (p q : ℕ) → sorted p q ≡ sorted q p
same p q =
    let low : min p q ≡ min q p = omega arith in
    let high : max p q ≡ max q p = omega arith in
    let of : ℕ → ℕ → Pair = λ m n. record { p = m; q = n } in
    ap (λ n. of n (max p q)) low ∙ ap (λ n. of (min q p) n) high

-- what is above an exchanged pair of a search
of_exchanged : (t : TaskShape) (h : PairShape) (p q : ℕ) (v : Span) → OfPair (IsOfTask t h) (sorted q p) v → OfPair (IsOfTask t h) (sorted p q) v
of_exchanged t h p q v m =
    (m.0, m.1, same p q ∙ m.2, m.3)

two_turned : (h : PairShape) (c d : Action) (p q : ℕ) (v : Span) → IsOfTwo h c d p q v → IsOfTwo h d c q p v
two_turned h c d p q v m = (turned c d m.0, (m.1.1, m.1.0, m.1.2 ∙ two_exchanged h c d))

beside_of : (t : TaskShape) (h : PairShape) (p q : ℕ) (v : Span) → FitsPairs t h → q < length t.atoms → IsLimitBeside t h p q v → IsOfTask t h q p v
beside_of t h p q v f lq m =
    let n = number_of_action t m.0 m.1 in
    let size : h.atoms ≡ length t.atoms = f.size in
    inr (n.0, n.1, inl (inr (q, omega (arith, lq, size), subst (λ (c : Action). IsBesideOne h c q q p v) n.2 (m.3, (refl, m.2, m.4)))))

-- each right side is looked at
pub task_from_limit : (t : TaskShape) (h : PairShape) (p q : ℕ) (v : Span) → FitsPairs t h → p < length t.atoms → q < length t.atoms → IsPairLimit t h p q v → OfPair (IsOfTask t h) (sorted p q) v
task_from_limit t h p q v f lp lq (at_start m) = (p, q, refl, inl m)
task_from_limit t h p q v f lp lq (by_one m) =
    let n = number_of_action t m.0 m.1 in
    (p, q, refl, inr (n.0, n.1, inl (inl (subst (λ (c : Action). IsAmongBoth c.add c.add (limit_by_one h c) p q v) n.2 (m.2, m.3, m.4)))))
task_from_limit t h p q v f lp lq (beside m) = of_exchanged t h p q v (q, p, refl, beside_of t h p q v f lq m)
task_from_limit t h p q v f lp lq (beside_exchanged m) = (p, q, refl, beside_of t h q p v f lp m)
task_from_limit t h p q v f lp lq (by_two m) = go (number_of_action t m.0 m.2) (number_of_action t m.1 m.3)
  where
    both : (c d : Action) → c ≡ m.0 → d ≡ m.1 → IsOfTwo h c d p q v
    both c d e g = subst (λ x. IsOfTwo h x d p q v) (sym e) (subst (λ y. IsOfTwo h m.0 y p q v) (sym g) (m.4, (m.5, m.6, m.7)))

    go : ((i : ℕ) × (i < length t.actions) × (m.0 ≡ nth_action t i)) → ((j : ℕ) × (j < length t.actions) × (m.1 ≡ nth_action t j)) → OfPair (IsOfTask t h) (sorted p q) v
    go (i, li, ei) (j, lj, ej) = elim (cases_lt j i) [
      | inl lt ↦ of_exchanged t h p q v (q, p, refl, inr (j, lj, inr (i, li, (let le : j ≤ i = omega arith in le), two_turned h (nth_action t i) (nth_action t j) p q v (both (nth_action t i) (nth_action t j) (sym ei) (sym ej)))))
      | inr le ↦ (p, q, refl, inr (i, li, inr (j, lj, le, both (nth_action t i) (nth_action t j) (sym ei) (sym ej))))
    ]

-- a search that found nothing
pub admissible_from_none : (t : TaskShape) (h : PairShape) → FitsPairs t h → ScansPairs h (IsOfTask t h) None None → IsAdmissiblePairs t h
admissible_from_none t h f s p q lp lq v m =
    elim (s.passes (sorted p q) v (task_from_limit t h p q v f lp lq m)) [ inl le ↦ subst (λ w. w ≤ˢ v) (pair_sorted h p q) le | inr none ↦ absurd none ]

-- what a search found
fault_from_hit : (t : TaskShape) (h : PairShape) (k : Pair) (most v : Span) (p q : ℕ) → InBounds t → FitsPairs t h → ScansPairs h (IsOfTask t h) None (Some k) → IsLeast (IsPairLimit t h k.p k.q) most →
    k ≡ sorted p q → IsOfTask t h p q v → v <ˢ pair_at h k.p k.q → IsPairFault t h (record { p = k.p; q = k.q; most = most })
fault_from_hit t h k most v p q b f s least is m lt =
    let below = task_below t h p q v b f m in
    let lp : p < length t.atoms = below.0 in
    let lq : q < length t.atoms = below.1 in
    let low : k.p ≡ min p q = ap (λ (a : Pair). a.p) is in
    let high : k.q ≡ max p q = ap (λ (a : Pair). a.q) is in
    let limit : IsPairLimit t h k.p k.q v = rw (low, high) (limit_sorted t h p q v (limit_from_task t h p q v m)) in
    record {
      ordered = omega (arith, low, high);
      within = omega (arith, lp, lq, high);
      least = least;
      above = le_lt most v (pair_at h k.p k.q) (least.least v limit) lt;
      first = first;
    }
  where
    first : (r u : ℕ) → r ≤ u → u < length t.atoms → ComesBefore r u k.p k.q → (w : Span) → IsPairLimit t h r u w → pair_at h r u ≤ˢ w
    first r u le lu early w l =
        elim (s.passes (sorted r u) w (task_from_limit t h r u w f (let lr : r < length t.atoms = omega arith in lr) lu l)) [
          | inl fine ↦ subst (λ x. x ≤ˢ w) (pair_sorted h r u) fine
          | inr reach ↦ absurd (not_both r u k.p k.q le early reach)
        ]
      where
        not_both : (r u a c : ℕ) → r ≤ u → ComesBefore r u a c → ((a < min r u) ⊎ ((a ≡ min r u) × (c ≤ max r u))) → ⊥
        not_both r u a c le (inl x) (inl y) = omega arith
        not_both r u a c le (inl x) (inr y) = let y0 : a ≡ min r u = y.0 in omega arith
        not_both r u a c le (inr x) (inl y) = let x0 : r ≡ a = x.0 in omega arith
        not_both r u a c le (inr x) (inr y) = let x1 : u < c = x.1 in let y1 : c ≤ max r u = y.1 in omega arith

pub fault_from_some : (t : TaskShape) (h : PairShape) (k : Pair) (most : Span) → InBounds t → FitsPairs t h → ScansPairs h (IsOfTask t h) None (Some k) → IsLeast (IsPairLimit t h k.p k.q) most → IsPairFault t h (record { p = k.p; q = k.q; most = most })
fault_from_some t h k most b f s least =
    elim s.origin [
      | inl e ↦ absurd (let z : ⊥ = cc e in z)
      | inr hit ↦ fault_from_hit t h k most hit.0 hit.1.0 hit.1.1 b f s least hit.1.2 hit.1.3 hit.2
    ]

-- the atoms that a search found are atoms
pub found_below : (t : TaskShape) (h : PairShape) (k : Pair) → InBounds t → FitsPairs t h → ScansPairs h (IsOfTask t h) None (Some k) → (k.p < h.atoms) × (k.q < h.atoms)
found_below t h k b f s =
    elim s.origin [
      | inl e ↦ absurd (let z : ⊥ = cc e in z)
      | inr hit ↦ below hit.1.0 hit.1.1 hit.1.2 (task_below t h hit.1.0 hit.1.1 hit.0 b f hit.1.3)
    ]
  where
    below : (p q : ℕ) → k ≡ sorted p q → (p < length t.atoms) × (q < length t.atoms) → (k.p < h.atoms) × (k.q < h.atoms)
    below p q is l =
        let low : k.p ≡ min p q = ap (λ (a : Pair). a.p) is in
        let high : k.q ≡ max p q = ap (λ (a : Pair). a.q) is in
        let size : h.atoms ≡ length t.atoms = f.size in
        let lp : p < length t.atoms = l.0 in
        let lq : q < length t.atoms = l.1 in
        (omega (arith, low, size, lp, lq), omega (arith, high, size, lp, lq))

-- the right sides of two atoms by the numbers of actions
pub limit_from_here : (t : TaskShape) (h : PairShape) (p q : ℕ) (v : Span) (n : ℕ) → n ≤ length t.actions → (IsLimitAtStart t p q v ⊎ ((i : ℕ) × (i < n) × IsActionHere t h i p q v)) → IsPairLimit t h p q v
limit_from_here t h p q v n le (inl m) = at_start m
limit_from_here t h p q v n le (inr (i, lt, m)) = go m
  where
    li : i < length t.actions
    li = omega arith

    has : Contains t.actions (nth_action t i)
    has = nth_contained t i li

    go : IsActionHere t h i p q v → IsPairLimit t h p q v
    go (inl (inl (inl a))) = by_one (nth_action t i, has, a.0, a.1, a.2)
    go (inl (inl (inr a))) = beside (nth_action t i, has, a.0, a.1, a.2)
    go (inl (inr a)) = beside_exchanged (nth_action t i, has, a.0, a.1, a.2)
    go (inr a) = by_two (nth_action t i, nth_action t a.0, has, nth_contained t a.0 a.1, a.2.0.1, a.2.0.0.0, a.2.0.0.1, a.2.1)

pub here_from_limit : (t : TaskShape) (h : PairShape) (p q : ℕ) (v : Span) (n : ℕ) → n ≡ length t.actions → IsPairLimit t h p q v → IsLimitAtStart t p q v ⊎ ((i : ℕ) × (i < n) × IsActionHere t h i p q v)
here_from_limit t h p q v n e (at_start m) = inl m
here_from_limit t h p q v n e (by_one m) =
    let k = number_of_action t m.0 m.1 in
    inr (k.0, subst (λ b. k.0 < b) (sym e) k.1, inl (inl (inl (subst (λ (c : Action). IsOneHere h c p q v) k.2 (m.2, m.3, m.4)))))
here_from_limit t h p q v n e (beside m) =
    let k = number_of_action t m.0 m.1 in
    inr (k.0, subst (λ b. k.0 < b) (sym e) k.1, inl (inl (inr (subst (λ (c : Action). IsBesideHere h c p q v) k.2 (m.2, m.3, m.4)))))
here_from_limit t h p q v n e (beside_exchanged m) =
    let k = number_of_action t m.0 m.1 in
    inr (k.0, subst (λ b. k.0 < b) (sym e) k.1, inl (inr (subst (λ (c : Action). IsBesideHere h c q p v) k.2 (m.2, m.3, m.4))))
here_from_limit t h p q v n e (by_two m) =
    let k = number_of_action t m.0 m.2 in
    let l = number_of_action t m.1 m.3 in
    inr (k.0, subst (λ b. k.0 < b) (sym e) k.1, inr (l.0, l.1, subst (λ (c : Action). IsTwoHere h c (nth_action t l.0) p q v) k.2 (subst (λ (d : Action). IsTwoHere h m.0 d p q v) l.2 (((m.5, m.6), m.4), m.7))))
