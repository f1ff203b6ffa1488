-- admissible pair tables bound the moments of valid plans
use Rattle.std.proofs.Common.{◌≡◌, ℕ, zero, suc, ◌<◌, ◌≤◌, ◌⊎◌, max, min, inl, inr, true, false, List, [], ◌∷◌, ◌++◌, length, Contains, refl, sym, subst, arith}
use Rattle.std.proofs.lemmas.Bool.{cases_eq, both_ways}
use Rattle.std.proofs.lemmas.List.Elements.{Contains-append_cases}
use Rattle.cpt_task.specs.declared.span.Span.{Span}
use Rattle.cpt_task.specs.declared.span.Span.TheVariants.{At}
use Rattle.cpt_task.specs.declared.task.Action.{Action}
use Rattle.cpt_task.specs.declared.plan.Occ.{Occ}
use Rattle.cpt_task.specs.Shape.{TaskShape, InBounds}
use Rattle.cpt_task.specs.Timeline.{action_of, end_of, adds_at, deletes_at, holds_at, IsValid, occurrence_at}
use Rattle.cpt_tables.specs.Spans.{◌≤ˢ◌, ◌+ˢ◌, span_max}
use Rattle.cpt_tables.specs.Shapes.{PairShape, pair_at, set_span_of}
use Rattle.cpt_tables.specs.Admissible.{IsAdmissiblePairs, limit_by_one, limit_beside, limit_by_two, Leaves}
use Rattle.cpt_tables.specs.Admissible.IsPairLimit.{at_start, by_one, beside, by_two}
use Rattle.cpt_tables.specs.Bounds.{AdmissiblePairsBound}
use Rattle.cpt_tables.proofs.SpanLemmas.{le_trans, max_le, add_le}
use Rattle.cpt_tables.proofs.SetLemmas.{across_le}
use Rattle.cpt_tables.proofs.PlaceLemmas.{pair_exchanged}
use Rattle.cpt_tables.proofs.PlanFacts.{contains_from_in, AddsAt, added_by, adds_from, deletes_from, hold_cases, since, of_plan, lasts, adds_in_range, needs_hold, no_clash, holds_in_range}

-- the table bounds the moment
abbrev pub IsBoundAt : PairShape → TaskShape → List Occ → ℕ → Type 0
IsBoundAt h t plan time = (p q : ℕ) → holds_at t plan time p ≡ true → holds_at t plan time q ≡ true → pair_at h p q ≤ˢ At time

set_le : (h : PairShape) (t : TaskShape) (plan : List Occ) (time : ℕ) (xs : List ℕ) → IsBoundAt h t plan time → ((x : ℕ) → Contains xs x → holds_at t plan time x ≡ true) → set_span_of h xs ≤ˢ At time
set_le h t plan time xs bound all = across_le h xs xs (At time) (λ p q hp hq. bound p q (all p hp) (all q hq))

-- an occurrence ends no earlier than its limit
one_le : (h : PairShape) (t : TaskShape) (plan : List Occ) (i : ℕ) → InBounds t → IsValid t plan → i < length plan → IsBoundAt h t plan (occurrence_at plan i).start → limit_by_one h (action_of t (occurrence_at plan i)) ≤ˢ At (end_of t (occurrence_at plan i))
one_le h t plan i b valid lt bound =
    let long = lasts t plan i b valid lt in
    let pos : 1 ≤ (action_of t (occurrence_at plan i)).dur = long.0 in
    add_le (set_span_of h (action_of t (occurrence_at plan i)).pre) (occurrence_at plan i).start (action_of t (occurrence_at plan i)).dur (end_of t (occurrence_at plan i))
    (set_le h t plan (occurrence_at plan i).start (action_of t (occurrence_at plan i)).pre bound (λ x has. needs_hold t plan i x (occurrence_at plan i).start valid lt has (omega arith) (omega (arith, pos)))) (omega arith)

-- two occurrences that overlap end no earlier than their limit
two_le : (h : PairShape) (t : TaskShape) (plan : List Occ) (i j m : ℕ) → InBounds t → IsValid t plan → i < length plan → j < length plan → ((s : ℕ) → s < m → IsBoundAt h t plan s) →
    end_of t (occurrence_at plan i) ≤ m → end_of t (occurrence_at plan j) ≤ m → (occurrence_at plan i).start < end_of t (occurrence_at plan j) → (occurrence_at plan j).start < end_of t (occurrence_at plan i) →
    limit_by_two h (action_of t (occurrence_at plan i)) (action_of t (occurrence_at plan j)) ≤ˢ At m
two_le h t plan i j m b valid li lj bound ei ej first second =
    let pi : 1 ≤ (action_of t (occurrence_at plan i)).dur = (lasts t plan i b valid li).0 in
    let pj : 1 ≤ (action_of t (occurrence_at plan j)).dur = (lasts t plan j b valid lj).0 in
    max_le (limit_by_one h c) (span_max (limit_by_one h d) together) (At m)
    (le_trans (limit_by_one h c) (At (end_of t (occurrence_at plan i))) (At m) (one_le h t plan i b valid li (bound (occurrence_at plan i).start (omega (arith, pi, ei)))) ei)
    (max_le (limit_by_one h d) together (At m)
    (le_trans (limit_by_one h d) (At (end_of t (occurrence_at plan j))) (At m) (one_le h t plan j b valid lj (bound (occurrence_at plan j).start (omega (arith, pj, ej)))) ej)
    (add_le (set_span_of h (c.pre ++ d.pre)) (max (occurrence_at plan i).start (occurrence_at plan j).start) (min c.dur d.dur) m
    (set_le h t plan (max (occurrence_at plan i).start (occurrence_at plan j).start) (c.pre ++ d.pre) (bound (max (occurrence_at plan i).start (occurrence_at plan j).start) (omega (arith, pi, pj, ei, ej))) hold)
    (omega (arith, ei, ej))))
  where
    c : Action
    c = action_of t (occurrence_at plan i)

    d : Action
    d = action_of t (occurrence_at plan j)

    together : Span
    together = set_span_of h (c.pre ++ d.pre) +ˢ At (min c.dur d.dur)

    hold : (x : ℕ) → Contains ((action_of t (occurrence_at plan i)).pre ++ (action_of t (occurrence_at plan j)).pre) x → holds_at t plan (max (occurrence_at plan i).start (occurrence_at plan j).start) x ≡ true
    hold x has =
        let pi : 1 ≤ (action_of t (occurrence_at plan i)).dur = (lasts t plan i b valid li).0 in
        let pj : 1 ≤ (action_of t (occurrence_at plan j)).dur = (lasts t plan j b valid lj).0 in
        elim (Contains-append_cases (action_of t (occurrence_at plan i)).pre (action_of t (occurrence_at plan j)).pre x has) [
          | inl a ↦ needs_hold t plan i x (max (occurrence_at plan i).start (occurrence_at plan j).start) valid li a (omega arith) (omega (arith, pi, second))
          | inr a ↦ needs_hold t plan j x (max (occurrence_at plan i).start (occurrence_at plan j).start) valid lj a (omega arith) (omega (arith, pj, first))
        ]

-- two atoms that are added, the second while the occurrence that adds the first runs or when it ends
pub two_added : (h : PairShape) (t : TaskShape) (plan : List Occ) (i j p q m e : ℕ) → InBounds t → IsAdmissiblePairs t h → IsValid t plan → ((s : ℕ) → s < m → IsBoundAt h t plan s) →
    AddsAt t plan i p m → AddsAt t plan j q e → (occurrence_at plan i).start < e → e ≤ m → pair_at h p q ≤ˢ At m
two_added h t plan i j p q m e b ok valid bound ai aj low high = elim (cases_eq i j) [
  | inl same ↦ le_trans (pair_at h p q) (limit_by_one h c) (At m)
      (ok p q lp lq (limit_by_one h c) (by_one (c, of_plan t plan i valid ai.within, ai.adds, subst (λ k. Contains (action_of t (occurrence_at plan k)).add q) (sym same) aj.adds, refl)))
      (subst (λ n. limit_by_one h c ≤ˢ At n) ai.ends (one_le h t plan i b valid ai.within (bound (occurrence_at plan i).start (omega (arith, low, high)))))
  | inr other ↦ le_trans (pair_at h p q) (limit_by_two h c d) (At m)
      (ok p q lp lq (limit_by_two h c d) (by_two (c, d, of_plan t plan i valid ai.within, of_plan t plan j valid aj.within, no_clash t plan i j valid ai.within aj.within other first second, ai.adds, aj.adds, refl)))
      (two_le h t plan i j m b valid ai.within aj.within bound (let x : end_of t (occurrence_at plan i) ≡ m = ai.ends in omega (arith, x)) (let y : end_of t (occurrence_at plan j) ≡ e = aj.ends in omega (arith, y, high)) first second)
]
  where
    c : Action
    c = action_of t (occurrence_at plan i)

    d : Action
    d = action_of t (occurrence_at plan j)

    lp : p < length t.atoms
    lp = adds_in_range t plan i p b valid ai.within ai.adds

    lq : q < length t.atoms
    lq = adds_in_range t plan j q b valid aj.within aj.adds

    first : (occurrence_at plan i).start < end_of t (occurrence_at plan j)
    first = subst (λ n. (occurrence_at plan i).start < n) (sym aj.ends) low

    second : (occurrence_at plan j).start < end_of t (occurrence_at plan i)
    second =
        let pj : 1 ≤ (action_of t (occurrence_at plan j)).dur = (lasts t plan j b valid aj.within).0 in
        let x : end_of t (occurrence_at plan i) ≡ m = ai.ends in
        let y : end_of t (occurrence_at plan j) ≡ e = aj.ends in
        omega (arith, pj, x, y, high)

only : (q x : ℕ) → Contains (q ∷ []) x → q ≡ x
only q x (zero, lt, e) = e
only q x (suc k, lt, e) = absurd (omega arith)

-- one atom is added, and the other holds then
one_added : (h : PairShape) (t : TaskShape) (plan : List Occ) (i p q m : ℕ) → InBounds t → IsAdmissiblePairs t h → IsValid t plan → ((s : ℕ) → s < m → IsBoundAt h t plan s) →
    AddsAt t plan i p m → holds_at t plan m q ≡ true → pair_at h p q ≤ˢ At m
one_added h t plan i p q m b ok valid bound ai hq =
    let pi : 1 ≤ (action_of t (occurrence_at plan i)).dur = (lasts t plan i b valid ai.within).0 in
    let x : end_of t (occurrence_at plan i) ≡ m = ai.ends in
    let early : (occurrence_at plan i).start < m = omega (arith, pi, x) in
    elim (since t plan q (occurrence_at plan i).start m (omega (arith, early)) hq) [
      | inl added ↦ let by = added_by t plan added.0 q added.3 in two_added h t plan i by.0 p q m added.0 b ok valid bound ai by.1 added.1 added.2
      | inr kept ↦ le_trans (pair_at h p q) (limit_beside h c q) (At m)
          (ok p q (adds_in_range t plan i p b valid ai.within ai.adds) (holds_in_range t plan m q b valid hq) (limit_beside h c q)
          (beside (c, of_plan t plan i valid ai.within, ai.adds, leaves (kept.1 m early (omega arith)), refl)))
          (add_le (set_span_of h (c.pre ++ q ∷ [])) (occurrence_at plan i).start c.dur m
          (set_le h t plan (occurrence_at plan i).start (c.pre ++ q ∷ []) (bound (occurrence_at plan i).start early) (hold kept.0)) (omega (arith, x)))
    ]
  where
    c : Action
    c = action_of t (occurrence_at plan i)

    leaves : ((deletes_at t plan m q ≡ false) × (adds_at t plan m q ≡ false)) → Leaves (action_of t (occurrence_at plan i)) q
    leaves quiet = (
      λ has. both_ways (adds_at t plan m q) quiet.1 (subst (λ n. adds_at t plan n q ≡ true) ai.ends (adds_from t plan i q ai.within has)),
      λ has. both_ways (deletes_at t plan m q) quiet.0 (subst (λ n. deletes_at t plan n q ≡ true) ai.ends (deletes_from t plan i q ai.within has)),
    )

    hold : holds_at t plan (occurrence_at plan i).start q ≡ true → (x : ℕ) → Contains ((action_of t (occurrence_at plan i)).pre ++ q ∷ []) x → holds_at t plan (occurrence_at plan i).start x ≡ true
    hold at x has =
        let pi : 1 ≤ (action_of t (occurrence_at plan i)).dur = (lasts t plan i b valid ai.within).0 in
        elim (Contains-append_cases (action_of t (occurrence_at plan i)).pre (q ∷ []) x has) [
          | inl a ↦ needs_hold t plan i x (occurrence_at plan i).start valid ai.within a (omega arith) (omega (arith, pi))
          | inr a ↦ subst (λ y. holds_at t plan (occurrence_at plan i).start y ≡ true) (only q x a) at
        ]

step : (h : PairShape) (t : TaskShape) (plan : List Occ) (m : ℕ) → InBounds t → IsAdmissiblePairs t h → IsValid t plan → ((s : ℕ) → s < m → IsBoundAt h t plan s) → IsBoundAt h t plan m
step h t plan zero b ok valid bound p q hp hq =
    ok p q (holds_in_range t plan zero p b valid hp) (holds_in_range t plan zero q b valid hq) (At 0) (at_start (contains_from_in t.init p hp, contains_from_in t.init q hq, refl))
step h t plan (suc m) b ok valid bound p q hp hq = go (hold_cases t plan m p hp) (hold_cases t plan m q hq)
  where
    go : ((adds_at t plan (suc m) p ≡ true) ⊎ ((holds_at t plan m p ≡ true) × (deletes_at t plan (suc m) p ≡ false) × (adds_at t plan (suc m) p ≡ false))) →
        ((adds_at t plan (suc m) q ≡ true) ⊎ ((holds_at t plan m q ≡ true) × (deletes_at t plan (suc m) q ≡ false) × (adds_at t plan (suc m) q ≡ false))) → pair_at h p q ≤ˢ At (suc m)
    go (inl a) _ = let by = added_by t plan (suc m) p a in one_added h t plan by.0 p q (suc m) b ok valid bound by.1 hq
    go (inr k) (inl a) =
        let by = added_by t plan (suc m) q a in
        subst (λ v. v ≤ˢ At (suc m)) (pair_exchanged h q p) (one_added h t plan by.0 q p (suc m) b ok valid bound by.1 hp)
    go (inr k) (inr l) = le_trans (pair_at h p q) (At m) (At (suc m)) (bound m (omega arith) p q k.0 l.0) (omega arith)

split : (s m : ℕ) → s < suc m → (s < m) ⊎ (s ≡ m)
split s m lt = grind arith

all_before : (h : PairShape) (t : TaskShape) (plan : List Occ) (m : ℕ) → InBounds t → IsAdmissiblePairs t h → IsValid t plan → (s : ℕ) → s < m → IsBoundAt h t plan s
all_before h t plan zero b ok valid s lt = absurd (omega arith)
all_before h t plan (suc m) b ok valid s lt =
    elim (split s m lt) [
      | inl before ↦ all_before h t plan m b ok valid s before
      | inr e ↦ subst (IsBoundAt h t plan) (sym e) (step h t plan m b ok valid (all_before h t plan m b ok valid))
    ]

pub pairs_bound : AdmissiblePairsBound
pairs_bound t h b ok plan valid time p q hp hq = step h t plan time b ok valid (all_before h t plan time b ok valid) p q hp hq
