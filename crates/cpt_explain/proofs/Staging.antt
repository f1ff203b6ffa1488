use Rattle.std.proofs.Common.{◌≡◌, ℕ, ◌+◌, ◌-◌, ◌<◌, ◌≤◌, ◌⊎◌, inl, inr, true, false, List, [], ◌∷◌, ◌++◌, length, get_or, take, take_all, refl, sym, ap, ◌∙◌, subst, arith, Contains, length-take-le}
use Rattle.std.specs.List.Sorted.{IsStrictlyIncreasing}
use Rattle.std.proofs.lemmas.List.{get_or-take}
use Rattle.std.proofs.lemmas.List.Elements.{All-get_or, All-nil, All-push, All-weaker, Contains-append_left, Contains-get_or, Contains-push}
use Rattle.std.proofs.lemmas.List.Quantifiers.{all_pairs_push}
use Rattle.std.proofs.lemmas.Grind.{get_or_default_zero}
use Rattle.cpt_task.specs.declared.plan.Occ.{Occ}
use Rattle.cpt_task.specs.declared.plan.Verdict.{Verdict}
use Rattle.cpt_task.specs.declared.plan.Verdict.TheVariants.{Valid, Overlap, Unmet, GoalMissing}
use Rattle.cpt_task.specs.Shape.{TaskShape}
use Rattle.cpt_task.specs.Timeline.{action_of, end_of, holds_at, makespan, occurrence_at, Clashes, HoldsFrom, HoldsThen}
use Rattle.cpt_task.specs.Judging.{IsFirstGap}
use Rattle.cpt_task.proofs.Order.{no_less}
use Rattle.cpt_explain.specs.Faults.{AreFaults, FaultBefore, IsFaultOf, PairBefore}
use Rattle.cpt_explain.specs.Stages.{AreMetBy, IsMetBy, Stage, goals, needs, pairs}

-- the same faults, by another stage
same_met : (t : TaskShape) (plan : List Occ) (a b : Stage) (faults : List Verdict) → ((v : Verdict) → IsMetBy t plan a v → IsMetBy t plan b v) → ((v : Verdict) → IsMetBy t plan b v → IsMetBy t plan a v)
    → AreMetBy t plan a faults → AreMetBy t plan b faults
same_met t plan a b faults to from h = record {
  ordered = h.ordered;
  only = All-weaker (IsMetBy t plan a) (IsMetBy t plan b) to faults h.only;
  whole = λ v m. h.whole v (from v m);
}

-- one more fault
one_more : (t : TaskShape) (plan : List Occ) (a b : Stage) (faults : List Verdict) (w : Verdict) → IsMetBy t plan b w → ((v : Verdict) → IsMetBy t plan a v → IsMetBy t plan b v × FaultBefore v w)
    → ((v : Verdict) → IsMetBy t plan b v → IsMetBy t plan a v ⊎ (v ≡ w)) → AreMetBy t plan a faults → AreMetBy t plan b (faults ++ w ∷ [])
one_more t plan a b faults w new old from h = record {
  ordered = all_pairs_push FaultBefore faults w h.ordered (λ k d lt. (old (get_or faults k d) (All-get_or (IsMetBy t plan a) faults k d lt h.only)).1);
  only = All-push (IsMetBy t plan b) faults w (All-weaker (IsMetBy t plan a) (IsMetBy t plan b) (λ v m. (old v m).0) faults h.only) new;
  whole = λ v m. elim (from v m) [
    | inl before ↦ Contains-append_left faults (w ∷ []) v (h.whole v before)
    | inr same ↦ subst (Contains (faults ++ w ∷ [])) (sym same) (Contains-push faults w)
  ];
}

pair_next : (k l i j : ℕ) → PairBefore k l i (j + 1) → PairBefore k l i j ⊎ ((k ≡ i) × (l ≡ j))
pair_next k l i j h = grind arith

pair_still : (k l i j : ℕ) → PairBefore k l i j → PairBefore k l i (j + 1)
pair_still k l i j h = grind arith

pair_none : (k l : ℕ) → PairBefore k l 0 0 → ⊥
pair_none k l h = grind arith

-- before anything was gone through
pub none_met : (t : TaskShape) (plan : List Occ) (faults : List Verdict) → faults ≡ [] → AreMetBy t plan (pairs 0 0) faults
none_met t plan faults e = subst (AreMetBy t plan (pairs 0 0)) (sym e) (record {
  ordered = λ i j d lt none. absurd (omega (arith, none));
  only = All-nil (IsMetBy t plan (pairs 0 0));
  whole = λ v m. absurd (never v m);
})
  where
    never : (v : Verdict) → IsMetBy t plan (pairs 0 0) v → ⊥
    never (Overlap k l) m = pair_none k l m.1
    never (Valid n) m = m
    never (Unmet k q s) m = m
    never (GoalMissing q) m = m

-- the next pair is an overlap
pub pair_met : (t : TaskShape) (plan : List Occ) (i j : ℕ) (faults : List Verdict) → i < j → j < length plan → Clashes t plan i j → AreMetBy t plan (pairs i j) faults → AreMetBy t plan (pairs i (j + 1)) (faults ++ Overlap i j ∷ [])
pair_met t plan i j faults lt within clash h =
    one_more t plan (pairs i j) (pairs i (j + 1)) faults (Overlap i j) ((lt, within, clash), inr (refl, omega arith)) before from h
  where
    before : (v : Verdict) → IsMetBy t plan (pairs i j) v → IsMetBy t plan (pairs i (j + 1)) v × FaultBefore v (Overlap i j)
    before (Overlap k l) m = ((m.0, pair_still k l i j m.1), m.1)
    before (Valid n) m = absurd m
    before (Unmet k q s) m = absurd m
    before (GoalMissing q) m = absurd m

    from : (v : Verdict) → IsMetBy t plan (pairs i (j + 1)) v → IsMetBy t plan (pairs i j) v ⊎ (v ≡ Overlap i j)
    from (Overlap k l) m = elim (pair_next k l i j m.1) [ inl old ↦ inl (m.0, old) | inr same ↦ inr (ap (λ x. Overlap x l) same.0 ∙ ap (Overlap i) same.1) ]
    from (Valid n) m = absurd m
    from (Unmet k q s) m = absurd m
    from (GoalMissing q) m = absurd m

-- the next pair is none
pub pair_passed : (t : TaskShape) (plan : List Occ) (i j : ℕ) (faults : List Verdict) → (Clashes t plan i j → ⊥) → AreMetBy t plan (pairs i j) faults → AreMetBy t plan (pairs i (j + 1)) faults
pair_passed t plan i j faults apart h = same_met t plan (pairs i j) (pairs i (j + 1)) faults to from h
  where
    to : (v : Verdict) → IsMetBy t plan (pairs i j) v → IsMetBy t plan (pairs i (j + 1)) v
    to (Overlap k l) m = (m.0, pair_still k l i j m.1)
    to (Valid n) m = m
    to (Unmet k q s) m = m
    to (GoalMissing q) m = m

    from : (v : Verdict) → IsMetBy t plan (pairs i (j + 1)) v → IsMetBy t plan (pairs i j) v
    from (Overlap k l) m = elim (pair_next k l i j m.1) [
      | inl old ↦ (m.0, old)
      | inr same ↦ absurd (apart (subst (Clashes t plan i) same.1 (subst (λ x. Clashes t plan x l) same.0 m.0.2)))
    ]
    from (Valid n) m = m
    from (Unmet k q s) m = m
    from (GoalMissing q) m = m

pair_later : (k l i : ℕ) → k < l → PairBefore k l i (i + 1) → PairBefore k l i 0
pair_later k l i lt h = grind arith

pair_from : (k l i : ℕ) → PairBefore k l i 0 → PairBefore k l i (i + 1)
pair_from k l i h = grind arith

-- pairs of a place begin behind it
pub pairs_begin : (t : TaskShape) (plan : List Occ) (i : ℕ) (faults : List Verdict) → AreMetBy t plan (pairs i 0) faults → AreMetBy t plan (pairs i (i + 1)) faults
pairs_begin t plan i faults h = same_met t plan (pairs i 0) (pairs i (i + 1)) faults to from h
  where
    to : (v : Verdict) → IsMetBy t plan (pairs i 0) v → IsMetBy t plan (pairs i (i + 1)) v
    to (Overlap k l) m = (m.0, pair_from k l i m.1)
    to (Valid n) m = m
    to (Unmet k q s) m = m
    to (GoalMissing q) m = m

    from : (v : Verdict) → IsMetBy t plan (pairs i (i + 1)) v → IsMetBy t plan (pairs i 0) v
    from (Overlap k l) m = (m.0, pair_later k l i m.0.0 m.1)
    from (Valid n) m = m
    from (Unmet k q s) m = m
    from (GoalMissing q) m = m

pair_over : (k l i j n : ℕ) → l < n → n ≤ j → PairBefore k l (i + 1) 0 → PairBefore k l i j
pair_over k l i j n lt le h = grind arith

pair_through : (k l i j : ℕ) → PairBefore k l i j → PairBefore k l (i + 1) 0
pair_through k l i j h = grind arith

-- all pairs of a place
pub pairs_end : (t : TaskShape) (plan : List Occ) (i j : ℕ) (faults : List Verdict) → length plan ≤ j → AreMetBy t plan (pairs i j) faults → AreMetBy t plan (pairs (i + 1) 0) faults
pairs_end t plan i j faults le h = same_met t plan (pairs i j) (pairs (i + 1) 0) faults to from h
  where
    to : (v : Verdict) → IsMetBy t plan (pairs i j) v → IsMetBy t plan (pairs (i + 1) 0) v
    to (Overlap k l) m = (m.0, pair_through k l i j m.1)
    to (Valid n) m = m
    to (Unmet k q s) m = m
    to (GoalMissing q) m = m

    from : (v : Verdict) → IsMetBy t plan (pairs (i + 1) 0) v → IsMetBy t plan (pairs i j) v
    from (Overlap k l) m = (m.0, pair_over k l i j (length plan) m.0.1 le m.1)
    from (Valid n) m = m
    from (Unmet k q s) m = m
    from (GoalMissing q) m = m

nothing_taken : (xs : List ℕ) (q : ℕ) → Contains (take 0 xs) q → ⊥
nothing_taken xs q has = let lt : has.0 < 0 = has.1 in omega (arith, lt)

pair_all : (k l i n : ℕ) → k < l → l < n → n ≤ i → PairBefore k l i 0
pair_all k l i n lt within le = grind arith

-- all pairs
pub pairs_over : (t : TaskShape) (plan : List Occ) (i : ℕ) (faults : List Verdict) → length plan ≤ i → AreMetBy t plan (pairs i 0) faults → AreMetBy t plan (needs 0 0) faults
pairs_over t plan i faults le h = same_met t plan (pairs i 0) (needs 0 0) faults to from h
  where
    to : (v : Verdict) → IsMetBy t plan (pairs i 0) v → IsMetBy t plan (needs 0 0) v
    to (Overlap k l) m = m.0
    to (Valid n) m = absurd m
    to (Unmet k q s) m = absurd m
    to (GoalMissing q) m = absurd m

    from : (v : Verdict) → IsMetBy t plan (needs 0 0) v → IsMetBy t plan (pairs i 0) v
    from (Overlap k l) m = (m, pair_all k l i (length plan) m.0 m.1 le)
    from (Valid n) m = absurd m
    from (Unmet k q s) m = absurd (elim m.1 [ inl lt ↦ omega (arith, lt) | inr has ↦ nothing_taken (action_of t (occurrence_at plan 0)).pre q has.1 ])
    from (GoalMissing q) m = absurd m

cases_lt_le : (j k : ℕ) → (j < k) ⊎ (k ≤ j)
cases_lt_le j k = grind arith

-- one more number of a list
take_next : (xs : List ℕ) (n q : ℕ) → n < length xs → Contains (take (n + 1) xs) q → Contains (take n xs) q ⊎ (q ≡ get_or xs n 0)
take_next xs n q lt has =
    let size : length (take (n + 1) xs) ≡ n + 1 = length-take-le (n + 1) xs (omega (arith, lt)) in
    let less : length (take n xs) ≡ n = length-take-le n xs (omega (arith, lt)) in
    let within : has.0 < length (take (n + 1) xs) = has.1 in
    let same : get_or xs has.0 q ≡ q = sym (get_or-take (n + 1) xs has.0 q (omega (arith, within, size))) ∙ has.2 in
    elim (cases_lt_le has.0 n) [
      | inl before ↦ inl (has.0, omega (arith, before, less), get_or-take n xs has.0 q before ∙ same)
      | inr after ↦
          let here : has.0 ≡ n = omega (arith, after, within, size) in
          inr (sym (subst (λ x. get_or xs x q ≡ q) here same) ∙ get_or_default_zero xs n q lt)
    ]

take_still : (xs : List ℕ) (n q : ℕ) → n < length xs → Contains (take n xs) q → Contains (take (n + 1) xs) q
take_still xs n q lt has =
    let size : length (take (n + 1) xs) ≡ n + 1 = length-take-le (n + 1) xs (omega (arith, lt)) in
    let less : length (take n xs) ≡ n = length-take-le n xs (omega (arith, lt)) in
    let within : has.0 < length (take n xs) = has.1 in
    (has.0, omega (arith, within, less, size), get_or-take (n + 1) xs has.0 q (omega (arith, within, less)) ∙ sym (get_or-take n xs has.0 q (omega (arith, within, less))) ∙ has.2)

take_here : (xs : List ℕ) (n : ℕ) → n < length xs → Contains (take (n + 1) xs) (get_or xs n 0)
take_here xs n lt =
    let size : length (take (n + 1) xs) ≡ n + 1 = length-take-le (n + 1) xs (omega (arith, lt)) in
    (n, omega (arith, size), get_or-take (n + 1) xs n (get_or xs n 0) (omega arith) ∙ get_or_default_zero xs n (get_or xs n 0) lt)

-- what stands before in an increasing list is less
taken_less : (xs : List ℕ) (n q : ℕ) → IsStrictlyIncreasing xs → n < length xs → Contains (take n xs) q → q < get_or xs n 0
taken_less xs n q inc lt has =
    let less : length (take n xs) ≡ n = length-take-le n xs (omega (arith, lt)) in
    let within : has.0 < length (take n xs) = has.1 in
    let before : has.0 < n = omega (arith, within, less) in
    let same : get_or xs has.0 0 ≡ q = sym (get_or_default_zero xs has.0 q (omega (arith, before, lt))) ∙ sym (get_or-take n xs has.0 q before) ∙ has.2 in
    let up : get_or xs has.0 0 < get_or xs (has.0 + 1) 0 = inc has.0 (omega (arith, before, lt)) in
    let far : get_or xs (has.0 + 1) 0 ≤ get_or xs (has.0 + 1 + (n - (has.0 + 1))) 0 = no_less xs inc (has.0 + 1) (n - (has.0 + 1)) (omega (arith, before, lt)) in
    let e : has.0 + 1 + (n - (has.0 + 1)) ≡ n = omega (arith, before) in
    omega (arith, same, up, far, ap (λ x. get_or xs x 0) e)

gap_breaks : (t : TaskShape) (plan : List Occ) (from to p time s : ℕ) → IsFirstGap t plan from to p time → IsFirstGap t plan from to p s → time < s → ⊥
gap_breaks t plan from to p time s a b lt = let h : holds_at t plan time p ≡ true = b.before time a.low lt in let z : ⊥ = cc (h, a.gap) in z

same_time : (a b : ℕ) → (a < b → ⊥) → (b < a → ⊥) → a ≡ b
same_time a b x y = grind arith

-- the next precondition of a place is lacking
pub need_met : (t : TaskShape) (plan : List Occ) (i n time : ℕ) (faults : List Verdict) → i < length plan → n < length (action_of t (occurrence_at plan i)).pre → IsStrictlyIncreasing (action_of t (occurrence_at plan i)).pre
    → IsFirstGap t plan (occurrence_at plan i).start (end_of t (occurrence_at plan i)) (get_or (action_of t (occurrence_at plan i)).pre n 0) time
    → AreMetBy t plan (needs i n) faults → AreMetBy t plan (needs i (n + 1)) (faults ++ Unmet i (get_or (action_of t (occurrence_at plan i)).pre n 0) time ∷ [])
need_met t plan i n time faults within lt inc gap h =
    let pre = (action_of t (occurrence_at plan i)).pre in
    let p = get_or pre n 0 in
    one_more t plan (needs i n) (needs i (n + 1)) faults (Unmet i p time) (record { within = within; needed = Contains-get_or pre n 0 lt; first = gap }, inr (refl, take_here pre n lt)) before from h
  where
    before : (v : Verdict) → IsMetBy t plan (needs i n) v → IsMetBy t plan (needs i (n + 1)) v × FaultBefore v (Unmet i (get_or (action_of t (occurrence_at plan i)).pre n 0) time)
    before (Overlap k l) m = (m, tt)
    before (Valid x) m = absurd m
    before (Unmet k q s) m = elim m.1 [
      | inl less ↦ ((m.0, inl less), inl less)
      | inr has ↦ ((m.0, inr (has.0, take_still (action_of t (occurrence_at plan i)).pre n q lt has.1)), inr (has.0, taken_less (action_of t (occurrence_at plan i)).pre n q inc lt has.1))
    ]
    before (GoalMissing q) m = absurd m

    from : (v : Verdict) → IsMetBy t plan (needs i (n + 1)) v → IsMetBy t plan (needs i n) v ⊎ (v ≡ Unmet i (get_or (action_of t (occurrence_at plan i)).pre n 0) time)
    from (Overlap k l) m = inl m
    from (Valid x) m = absurd m
    from (Unmet k q s) m = elim m.1 [
      | inl less ↦ inl (m.0, inl less)
      | inr has ↦ elim (take_next (action_of t (occurrence_at plan i)).pre n q lt has.1) [
        | inl old ↦ inl (m.0, inr (has.0, old))
        | inr here ↦
            let o = occurrence_at plan i in
            let first : IsFirstGap t plan o.start (end_of t o) (get_or (action_of t o).pre n 0) s =
            subst (λ x. IsFirstGap t plan o.start (end_of t o) x s) here (subst (λ x. IsFirstGap t plan (occurrence_at plan x).start (end_of t (occurrence_at plan x)) q s) has.0 m.0.first) in
            let when : s ≡ time = same_time s time (gap_breaks t plan o.start (end_of t o) (get_or (action_of t o).pre n 0) s time first gap) (gap_breaks t plan o.start (end_of t o) (get_or (action_of t o).pre n 0) time s gap first) in
            inr (ap (λ x. Unmet x q s) has.0 ∙ ap (λ x. Unmet i x s) here ∙ ap (Unmet i (get_or (action_of t o).pre n 0)) when)
      ]
    ]
    from (GoalMissing q) m = absurd m

-- the next precondition of a place is met
pub need_passed : (t : TaskShape) (plan : List Occ) (i n : ℕ) (faults : List Verdict) → n < length (action_of t (occurrence_at plan i)).pre
    → HoldsFrom t plan (occurrence_at plan i).start (end_of t (occurrence_at plan i)) (get_or (action_of t (occurrence_at plan i)).pre n 0) → AreMetBy t plan (needs i n) faults → AreMetBy t plan (needs i (n + 1)) faults
need_passed t plan i n faults lt holds h = same_met t plan (needs i n) (needs i (n + 1)) faults to from h
  where
    to : (v : Verdict) → IsMetBy t plan (needs i n) v → IsMetBy t plan (needs i (n + 1)) v
    to (Overlap k l) m = m
    to (Valid x) m = m
    to (Unmet k q s) m = (m.0, elim m.1 [ inl less ↦ inl less | inr has ↦ inr (has.0, take_still (action_of t (occurrence_at plan i)).pre n q lt has.1) ])
    to (GoalMissing q) m = m

    from : (v : Verdict) → IsMetBy t plan (needs i (n + 1)) v → IsMetBy t plan (needs i n) v
    from (Overlap k l) m = m
    from (Valid x) m = m
    from (Unmet k q s) m = elim m.1 [
      | inl less ↦ (m.0, inl less)
      | inr has ↦ elim (take_next (action_of t (occurrence_at plan i)).pre n q lt has.1) [
        | inl old ↦ (m.0, inr (has.0, old))
        | inr here ↦
            let o = occurrence_at plan i in
            let first : IsFirstGap t plan o.start (end_of t o) (get_or (action_of t o).pre n 0) s =
            subst (λ x. IsFirstGap t plan o.start (end_of t o) x s) here (subst (λ x. IsFirstGap t plan (occurrence_at plan x).start (end_of t (occurrence_at plan x)) q s) has.0 m.0.first) in
            let now : holds_at t plan s (get_or (action_of t o).pre n 0) ≡ true = holds s first.low first.high in
            absurd (let z : ⊥ = cc (now, first.gap) in z)
      ]
    ]
    from (GoalMissing q) m = m

-- all preconditions of a place
pub needs_end : (t : TaskShape) (plan : List Occ) (i n : ℕ) (faults : List Verdict) → length (action_of t (occurrence_at plan i)).pre ≤ n → AreMetBy t plan (needs i n) faults → AreMetBy t plan (needs (i + 1) 0) faults
needs_end t plan i n faults le h = same_met t plan (needs i n) (needs (i + 1) 0) faults to from h
  where
    to : (v : Verdict) → IsMetBy t plan (needs i n) v → IsMetBy t plan (needs (i + 1) 0) v
    to (Overlap k l) m = m
    to (Valid x) m = m
    to (Unmet k q s) m = (m.0, inl (elim m.1 [ inl less ↦ omega (arith, less) | inr has ↦ let e : k ≡ i = has.0 in omega (arith, e) ]))
    to (GoalMissing q) m = m

    from : (v : Verdict) → IsMetBy t plan (needs (i + 1) 0) v → IsMetBy t plan (needs i n) v
    from (Overlap k l) m = m
    from (Valid x) m = m
    from (Unmet k q s) m = elim m.1 [
      | inl less ↦ elim (cases_lt_le k i) [
        | inl before ↦ (m.0, inl before)
        | inr after ↦
            let same : k ≡ i = omega (arith, less, after) in
            let needed : Contains (action_of t (occurrence_at plan i)).pre q = subst (λ x. Contains (action_of t (occurrence_at plan x)).pre q) same m.0.needed in
            (m.0, inr (same, subst (λ xs. Contains xs q) (sym (take_all n (action_of t (occurrence_at plan i)).pre le)) needed))
      ]
      | inr has ↦ absurd (nothing_taken (action_of t (occurrence_at plan (i + 1))).pre q has.1)
    ]
    from (GoalMissing q) m = m

-- all preconditions
pub needs_over : (t : TaskShape) (plan : List Occ) (i : ℕ) (faults : List Verdict) → length plan ≤ i → AreMetBy t plan (needs i 0) faults → AreMetBy t plan (goals 0) faults
needs_over t plan i faults le h = same_met t plan (needs i 0) (goals 0) faults to from h
  where
    to : (v : Verdict) → IsMetBy t plan (needs i 0) v → IsMetBy t plan (goals 0) v
    to (Overlap k l) m = m
    to (Valid x) m = absurd m
    to (Unmet k q s) m = m.0
    to (GoalMissing q) m = absurd m

    from : (v : Verdict) → IsMetBy t plan (goals 0) v → IsMetBy t plan (needs i 0) v
    from (Overlap k l) m = m
    from (Valid x) m = absurd m
    from (Unmet k q s) m = (m, inl (let lt : k < length plan = m.within in omega (arith, lt, le)))
    from (GoalMissing q) m = absurd (nothing_taken t.goal q m.1)

-- the next goal atom is missing
pub goal_met : (t : TaskShape) (plan : List Occ) (n : ℕ) (faults : List Verdict) → n < length t.goal → IsStrictlyIncreasing t.goal → holds_at t plan (makespan t plan) (get_or t.goal n 0) ≡ false
    → AreMetBy t plan (goals n) faults → AreMetBy t plan (goals (n + 1)) (faults ++ GoalMissing (get_or t.goal n 0) ∷ [])
goal_met t plan n faults lt inc gap h =
    one_more t plan (goals n) (goals (n + 1)) faults (GoalMissing (get_or t.goal n 0)) ((Contains-get_or t.goal n 0 lt, gap), take_here t.goal n lt) before from h
  where
    before : (v : Verdict) → IsMetBy t plan (goals n) v → IsMetBy t plan (goals (n + 1)) v × FaultBefore v (GoalMissing (get_or t.goal n 0))
    before (Overlap k l) m = (m, tt)
    before (Valid x) m = absurd m
    before (Unmet k q s) m = (m, tt)
    before (GoalMissing q) m = ((m.0, take_still t.goal n q lt m.1), taken_less t.goal n q inc lt m.1)

    from : (v : Verdict) → IsMetBy t plan (goals (n + 1)) v → IsMetBy t plan (goals n) v ⊎ (v ≡ GoalMissing (get_or t.goal n 0))
    from (Overlap k l) m = inl m
    from (Valid x) m = absurd m
    from (Unmet k q s) m = inl m
    from (GoalMissing q) m = elim (take_next t.goal n q lt m.1) [ inl old ↦ inl (m.0, old) | inr here ↦ inr (ap GoalMissing here) ]

-- the next goal atom holds
pub goal_passed : (t : TaskShape) (plan : List Occ) (n : ℕ) (faults : List Verdict) → n < length t.goal → HoldsThen t plan (makespan t plan) (get_or t.goal n 0) → AreMetBy t plan (goals n) faults → AreMetBy t plan (goals (n + 1)) faults
goal_passed t plan n faults lt holds h = same_met t plan (goals n) (goals (n + 1)) faults to from h
  where
    to : (v : Verdict) → IsMetBy t plan (goals n) v → IsMetBy t plan (goals (n + 1)) v
    to (Overlap k l) m = m
    to (Valid x) m = m
    to (Unmet k q s) m = m
    to (GoalMissing q) m = (m.0, take_still t.goal n q lt m.1)

    from : (v : Verdict) → IsMetBy t plan (goals (n + 1)) v → IsMetBy t plan (goals n) v
    from (Overlap k l) m = m
    from (Valid x) m = m
    from (Unmet k q s) m = m
    from (GoalMissing q) m = elim (take_next t.goal n q lt m.1) [
      | inl old ↦ (m.0, old)
      | inr here ↦ absurd (let gap : holds_at t plan (makespan t plan) (get_or t.goal n 0) ≡ false = subst (λ x. holds_at t plan (makespan t plan) x ≡ false) here m.0.1 in let z : ⊥ = cc (holds, gap) in z)
    ]

-- all faults
pub all_met : (t : TaskShape) (plan : List Occ) (n : ℕ) (faults : List Verdict) → length t.goal ≤ n → AreMetBy t plan (goals n) faults → AreFaults t plan faults
all_met t plan n faults le h = record {
  ordered = h.ordered;
  only = All-weaker (IsMetBy t plan (goals n)) (IsFaultOf t plan) is_fault faults h.only;
  whole = λ v f. h.whole v (is_met v f);
}
  where
    is_fault : (v : Verdict) → IsMetBy t plan (goals n) v → IsFaultOf t plan v
    is_fault (Overlap k l) m = m
    is_fault (Valid x) m = m
    is_fault (Unmet k q s) m = m
    is_fault (GoalMissing q) m = m.0

    is_met : (v : Verdict) → IsFaultOf t plan v → IsMetBy t plan (goals n) v
    is_met (Overlap k l) f = f
    is_met (Valid x) f = f
    is_met (Unmet k q s) f = f
    is_met (GoalMissing q) f = (f, subst (λ xs. Contains xs q) (sym (take_all n t.goal le)) f.0)
