-- admissible distance tables bound the moments of valid plans after an end
use Rattle.std.proofs.Common.{◌≡◌, ◌≢◌, ℕ, zero, suc, ◌-◌, ◌<◌, ◌≤◌, ◌⊎◌, inl, inr, true, List, length, get_or, Contains, refl, sym, ap, subst, ◌∙◌, arith}
use Rattle.std.proofs.lemmas.Bool.{cases_eq, cases_lt, both_ways}
use Rattle.std.proofs.lemmas.List.{get_or_default}
use Rattle.cpt_task.specs.declared.span.Span.{Span}
use Rattle.cpt_task.specs.declared.span.Span.TheVariants.{At, Never}
use Rattle.cpt_task.specs.declared.task.Action.{Action}
use Rattle.cpt_task.specs.declared.plan.Occ.{Occ}
use Rattle.cpt_task.specs.Shape.{TaskShape, InBounds}
use Rattle.cpt_task.specs.Timeline.{action_of, end_of, deletes_at, holds_at, IsValid, occurrence_at}
use Rattle.cpt_tables.specs.Spans.{◌≤ˢ◌, ◌+ˢ◌, IsFinite}
use Rattle.cpt_tables.specs.Shapes.{PairShape, DistShape, pair_at, dist_at, most_dist}
use Rattle.cpt_tables.specs.Admissible.{IsAdmissiblePairs, IsAdmissibleDists, CanHoldWith, Stays, IsAtOnce, limit_after}
use Rattle.cpt_tables.specs.Admissible.IsDistLimit.{at_once, later}
use Rattle.cpt_tables.specs.Bounds.{AdmissibleDistsBound}
use Rattle.cpt_tables.proofs.SpanLemmas.{le_trans, add_le, finite_at}
use Rattle.cpt_tables.proofs.MostLemmas.{over_le}
use Rattle.cpt_tables.proofs.SetLemmas.{all_from}
use Rattle.cpt_tables.proofs.ListLemmas.{place_in, contains_at}
use Rattle.cpt_tables.proofs.PlanFacts.{contains_cases, AddsAt, added_by, adds_from, deletes_from, holds_from_add, hold_cases, since, of_plan, lasts, needs_hold, no_clash, holds_in_range}
use Rattle.cpt_tables.proofs.PairBounds.{two_added, pairs_bound}

finite_cases : (a : Span) → IsFinite a ⊎ (IsFinite a → ⊥)
finite_cases (At a) = inl tt
finite_cases Never = inr (λ h. h)

-- a fact that is decided at each number is decided of all numbers below n
all_cases : (P : ℕ → Type 0) → ((k : ℕ) → P k ⊎ (P k → ⊥)) → (n : ℕ) → ((k : ℕ) → k < n → P k) ⊎ (((k : ℕ) → k < n → P k) → ⊥)
all_cases P decide zero = inl (λ k lt. absurd (omega arith))
all_cases P decide (suc n) =
    elim (all_cases P decide n) [
      | inr bad ↦ inr (λ all. bad (λ k lt. all k (omega arith)))
      | inl fine ↦ elim (decide n) [
        | inr bad ↦ inr (λ all. bad (all n (omega arith)))
        | inl here ↦ inl (λ k lt. elim (cases_eq k n) [ inl e ↦ subst P (sym e) here | inr ne ↦ fine k (omega arith) ])
      ]
    ]

can_hold_cases : (h : PairShape) (p : ℕ) (xs : List ℕ) → CanHoldWith h p xs ⊎ (CanHoldWith h p xs → ⊥)
can_hold_cases h p xs =
    elim (all_cases (λ k. IsFinite (pair_at h p (get_or xs k 0))) (λ k. finite_cases (pair_at h p (get_or xs k 0))) (length xs)) [
      | inl fine ↦ inl (λ r has. let at = place_in xs r has in subst (λ x. IsFinite (pair_at h p x)) (sym at.2) (fine at.0 at.1))
      | inr bad ↦ inr (λ all. bad (λ k lt. all (get_or xs k 0) (contains_at xs (get_or xs k 0) k lt refl)))
    ]

pub at_once_cases : (h : PairShape) (a : Action) (p : ℕ) → IsAtOnce h a p ⊎ (IsAtOnce h a p → ⊥)
at_once_cases h a p = go (contains_cases a.add p) (contains_cases a.dele p) (can_hold_cases h p a.add)
  where
    go : (Contains a.add p ⊎ (Contains a.add p → ⊥)) → (Contains a.dele p ⊎ (Contains a.dele p → ⊥)) → (CanHoldWith h p a.add ⊎ (CanHoldWith h p a.add → ⊥)) → IsAtOnce h a p ⊎ (IsAtOnce h a p → ⊥)
    go (inl add) _ _ = inl (inl add)
    go (inr not_added) (inl deleted) _ = inr (λ once. elim once [ inl x ↦ not_added x | inr x ↦ x.0 deleted ])
    go (inr not_added) (inr kept) (inl can) = inl (inr (kept, can))
    go (inr not_added) (inr kept) (inr cannot) = inr (λ once. elim once [ inl x ↦ not_added x | inr x ↦ cannot x.1 ])

-- an atom that holds at the end of an occurrence of a is added by it, or stays
holds_at_end : (h : PairShape) (t : TaskShape) (plan : List Occ) (i p : ℕ) → InBounds t → IsAdmissiblePairs t h → IsValid t plan → i < length plan → holds_at t plan (end_of t (occurrence_at plan i)) p ≡ true → IsAtOnce h (action_of t (occurrence_at plan i)) p
holds_at_end h t plan i p b ok valid lt hp = go (contains_cases (action_of t (occurrence_at plan i)).add p) (contains_cases (action_of t (occurrence_at plan i)).dele p)
  where
    late : 0 < end_of t (occurrence_at plan i)
    late = let pos : 1 ≤ (action_of t (occurrence_at plan i)).dur = (lasts t plan i b valid lt).0 in omega (arith, pos)

    can : CanHoldWith h p (action_of t (occurrence_at plan i)).add
    can r has =
        finite_at (pair_at h p r) (end_of t (occurrence_at plan i))
        (pairs_bound t h b ok plan valid (end_of t (occurrence_at plan i)) p r hp (holds_from_add t plan (end_of t (occurrence_at plan i)) r late (adds_from t plan i r lt has)))

    -- an atom that is deleted then and holds is added then, by another occurrence, which interferes
    not_deleted : (Contains (action_of t (occurrence_at plan i)).add p → ⊥) → (m : ℕ) → m ≡ end_of t (occurrence_at plan i) → holds_at t plan m p ≡ true → Contains (action_of t (occurrence_at plan i)).dele p → ⊥
    not_deleted not_added zero e hm has = omega (arith, e, late)
    not_deleted not_added (suc m) e hm has = elim (hold_cases t plan m p hm) [
      | inr kept ↦ both_ways (deletes_at t plan (suc m) p) kept.1 (subst (λ n. deletes_at t plan n p ≡ true) (sym e) (deletes_from t plan i p lt has))
      | inl added ↦
          let by = added_by t plan (suc m) p added in
          let ends : end_of t (occurrence_at plan by.0) ≡ suc m = by.1.ends in
          let pi : 1 ≤ (action_of t (occurrence_at plan i)).dur = (lasts t plan i b valid lt).0 in
          let pj : 1 ≤ (action_of t (occurrence_at plan by.0)).dur = (lasts t plan by.0 b valid by.1.within).0 in
          no_clash t plan i by.0 valid lt by.1.within (λ same. not_added (subst (λ k. Contains (action_of t (occurrence_at plan k)).add p) (sym same) by.1.adds))
          (omega (arith, pi, e, ends)) (omega (arith, pj, e, ends)) (inl (inr (p, has, by.1.adds)))
    ]

    go : (Contains (action_of t (occurrence_at plan i)).add p ⊎ (Contains (action_of t (occurrence_at plan i)).add p → ⊥)) →
        (Contains (action_of t (occurrence_at plan i)).dele p ⊎ (Contains (action_of t (occurrence_at plan i)).dele p → ⊥)) → IsAtOnce h (action_of t (occurrence_at plan i)) p
    go (inl added) _ = inl added
    go (inr not_added) (inl deleted) = absurd (not_deleted not_added (end_of t (occurrence_at plan i)) refl hp deleted)
    go (inr not_added) (inr kept) = inr (kept, can)

-- an atom that is added by an occurrence that runs while one of a ends stays
added_across : (h : PairShape) (t : TaskShape) (plan : List Occ) (i j p e : ℕ) → InBounds t → IsAdmissiblePairs t h → IsValid t plan → i < length plan → AddsAt t plan j p e →
    end_of t (occurrence_at plan i) < e → (occurrence_at plan j).start < end_of t (occurrence_at plan i) → Stays h (action_of t (occurrence_at plan i)) p
added_across h t plan i j p e b ok valid lt by after across = (
  λ has. no_clash t plan i j valid lt by.within other first across (inl (inr (p, has, by.adds))),
  λ r has. finite_at (pair_at h p r) e
      (two_added h t plan j i p r e (end_of t (occurrence_at plan i)) b ok valid (λ s early. pairs_bound t h b ok plan valid s) by (record { within = lt; ends = refl; adds = has }) across (let x : end_of t (occurrence_at plan i) < e = after in omega (arith, x))),
)
  where
    ends : end_of t (occurrence_at plan j) ≡ e
    ends = by.ends

    first : (occurrence_at plan i).start < end_of t (occurrence_at plan j)
    first = let x : end_of t (occurrence_at plan j) ≡ e = by.ends in omega (arith, after, x)

    other : i ≢ j
    other same = let x : end_of t (occurrence_at plan j) ≡ e = by.ends in let y : end_of t (occurrence_at plan i) ≡ end_of t (occurrence_at plan j) = ap (λ k. end_of t (occurrence_at plan k)) same in omega (arith, after, x, y)

-- the table bounds the time since the end of occurrence i
abbrev pub IsBoundAfter : DistShape → TaskShape → List Occ → ℕ → ℕ → Type 0
IsBoundAfter d t plan i m = (p : ℕ) → end_of t (occurrence_at plan i) ≤ m → holds_at t plan m p ≡ true → dist_at d (occurrence_at plan i).act p ≤ˢ At (m - end_of t (occurrence_at plan i))

step : (h : PairShape) (d : DistShape) (t : TaskShape) (plan : List Occ) (i m : ℕ) → InBounds t → IsAdmissiblePairs t h → IsAdmissibleDists t h d → IsValid t plan → i < length plan →
    ((s : ℕ) → s < m → IsBoundAfter d t plan i s) → IsBoundAfter d t plan i m
step h d t plan i m b ok fine valid lt bound p after hp = go (at_once_cases h (action_of t (occurrence_at plan i)) p)
  where
    la : (occurrence_at plan i).act < length t.actions
    la = valid.of_task i (record { act = 0; start = 0 }) lt

    lp : p < length t.atoms
    lp = holds_in_range t plan m p b valid hp

    -- an action that begins after the end
    whole : (IsAtOnce h (action_of t (occurrence_at plan i)) p → ⊥) → (j e : ℕ) → AddsAt t plan j p e → e ≤ m → end_of t (occurrence_at plan i) ≤ (occurrence_at plan j).start → dist_at d (occurrence_at plan i).act p ≤ˢ At (m - end_of t (occurrence_at plan i))
    whole not_once j e by high from =
        let ends : end_of t (occurrence_at plan j) ≡ e = by.ends in
        let pj : 1 ≤ (action_of t (occurrence_at plan j)).dur = (lasts t plan j b valid by.within).0 in
        le_trans (dist_at d (occurrence_at plan i).act p) (limit_after d (occurrence_at plan i).act (action_of t (occurrence_at plan j))) (At (m - end_of t (occurrence_at plan i)))
        (fine (occurrence_at plan i).act p la lp (limit_after d (occurrence_at plan i).act (action_of t (occurrence_at plan j)))
        (later not_once (action_of t (occurrence_at plan j), of_plan t plan j valid by.within, by.adds, refl)))
        (add_le (most_dist d (occurrence_at plan i).act (action_of t (occurrence_at plan j)).pre) ((occurrence_at plan j).start - end_of t (occurrence_at plan i)) (action_of t (occurrence_at plan j)).dur (m - end_of t (occurrence_at plan i))
        (over_le (dist_at d (occurrence_at plan i).act) (action_of t (occurrence_at plan j)).pre (At ((occurrence_at plan j).start - end_of t (occurrence_at plan i)))
        (all_from (λ r. dist_at d (occurrence_at plan i).act r ≤ˢ At ((occurrence_at plan j).start - end_of t (occurrence_at plan i))) (action_of t (occurrence_at plan j)).pre
        (λ r has. bound (occurrence_at plan j).start (omega (arith, pj, ends, high)) r from (needs_hold t plan j r (occurrence_at plan j).start valid by.within has (omega arith) (omega (arith, pj))))))
        (omega (arith, ends, high, from)))

    go : (IsAtOnce h (action_of t (occurrence_at plan i)) p ⊎ (IsAtOnce h (action_of t (occurrence_at plan i)) p → ⊥)) → dist_at d (occurrence_at plan i).act p ≤ˢ At (m - end_of t (occurrence_at plan i))
    go (inl once) =
        le_trans (dist_at d (occurrence_at plan i).act p) (At 0) (At (m - end_of t (occurrence_at plan i))) (fine (occurrence_at plan i).act p la lp (At 0) (at_once once refl)) (omega arith)
    go (inr not_once) = elim (since t plan p (end_of t (occurrence_at plan i)) m after hp) [
      | inr kept ↦ absurd (not_once (holds_at_end h t plan i p b ok valid lt kept.0))
      | inl added ↦
          let by = added_by t plan added.0 p added.3 in
          elim (cases_lt (occurrence_at plan by.0).start (end_of t (occurrence_at plan i))) [
            | inl across ↦ absurd (not_once (inr (added_across h t plan i by.0 p added.0 b ok valid lt by.1 added.1 across)))
            | inr from ↦ whole not_once by.0 added.0 by.1 added.2 from
          ]
    ]

split : (s m : ℕ) → s < suc m → (s < m) ⊎ (s ≡ m)
split s m lt = grind arith

all_before : (h : PairShape) (d : DistShape) (t : TaskShape) (plan : List Occ) (i m : ℕ) → InBounds t → IsAdmissiblePairs t h → IsAdmissibleDists t h d → IsValid t plan → i < length plan → (s : ℕ) → s < m → IsBoundAfter d t plan i s
all_before h d t plan i zero b ok fine valid lt s early = absurd (omega arith)
all_before h d t plan i (suc m) b ok fine valid lt s early =
    elim (split s m early) [
      | inl before ↦ all_before h d t plan i m b ok fine valid lt s before
      | inr e ↦ subst (IsBoundAfter d t plan i) (sym e) (step h d t plan i m b ok fine valid lt (all_before h d t plan i m b ok fine valid lt))
    ]

-- a bound on the time since a moment
moved : (v : Span) (e m : ℕ) → e ≤ m → v ≤ˢ At (m - e) → (At e +ˢ v) ≤ˢ At m
moved (At v) e m le h = omega arith
moved Never e m le h = absurd h

pub dists_bound : AdmissibleDistsBound
dists_bound t h d b ok fine plan valid o has time p after hp =
    let same : occurrence_at plan has.0 ≡ o = get_or_default plan has.0 (record { act = 0; start = 0 }) o has.1 ∙ has.2 in
    subst (λ (x : Occ). end_of t x ≤ time → (At (end_of t x) +ˢ dist_at d x.act p) ≤ˢ At time) same
    (λ later_on. moved (dist_at d (occurrence_at plan has.0).act p) (end_of t (occurrence_at plan has.0)) time later_on
    (step h d t plan has.0 time b ok fine valid has.1 (all_before h d t plan has.0 time b ok fine valid has.1) p later_on hp))
    after
