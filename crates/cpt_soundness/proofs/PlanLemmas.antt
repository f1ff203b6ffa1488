-- what valid plans keep
use Rattle.std.proofs.Common.{◌≡◌, ◌≢◌, ℕ, suc, zero, ◌+◌, ◌-◌, ◌≤◌, ◌<◌, List, [], ◌∷◌, true, length, Contains, refl, sym, ◌∙◌, ap, subst, arith, inl, inr, ◌⊎◌, if◌then◌else◌, Bool}
use Rattle.std.proofs.lemmas.Bool.{both_ways, cases_lt, cases_eq, lt-ltb}
use Rattle.std.proofs.lemmas.List.{get_or_default}
use Rattle.std.proofs.lemmas.List.Elements.{All-contains}
use Rattle.cpt_task.specs.declared.plan.Occ.{Occ}
use Rattle.cpt_task.specs.declared.span.Span.{Span}
use Rattle.cpt_task.specs.declared.span.Span.TheVariants.{At, Never}
use Rattle.cpt_task.specs.Shape.{TaskShape, InBounds}
use Rattle.cpt_task.specs.Interference.{Interferes}
use Rattle.cpt_task.specs.Timeline.{action_of, end_of, occurrence_at, makespan, IsValid, HoldsThen, deletes_at}
use Rattle.cpt_tables.specs.declared.tables.Tables.{Tables}
use Rattle.cpt_tables.specs.Spans.{◌≤ˢ◌, ◌+ˢ◌}
use Rattle.cpt_tables.specs.Shapes.{dist_at, set_span_of, most_dist}
use Rattle.cpt_tables.specs.Admissible.{nth_action}
use Rattle.cpt_tables.proofs.MostLemmas.{over_le}
use Rattle.cpt_tables.proofs.SetLemmas.{across_le, all_from}
use Rattle.cpt_tables.proofs.PairBounds.{pairs_bound}
use Rattle.cpt_tables.proofs.DistBounds.{dists_bound}
use Rattle.cpt_tables.proofs.PlanFacts.{contains_from_in, contains_cases, added_by, deletes_from, since, lasts, needs_hold, no_clash}
use Rattle.cpt_sheet.specs.declared.data.Kind.TheVariants.{Act}
use Rattle.cpt_sheet.specs.Roles.{needs_of, adds_of}
use Rattle.cpt_sheet.specs.Gaps.{reach}
use Rattle.cpt_calculus.specs.Plans.{Who, begins, IsAdder, IsNoEarlier, Supplies}
use Rattle.cpt_calculus.specs.Plans.Who.{begin, finish, place}
use Rattle.cpt_soundness.specs.Acting.{IsAdmissible, kind_who, IsWithin, IsAhead, KeepsGaps, GapsKept, DeletersKeepAway, GoalBounds}

zero_add_le : (g : Span) (m : ℕ) → g ≤ˢ At m → (At 0 +ˢ g) ≤ˢ At m
zero_add_le (At g) m h = omega arith
zero_add_le Never m h = h

back_off : (e m : ℕ) (g : Span) → (At e +ˢ g) ≤ˢ At m → g ≤ˢ At (m - e)
back_off e m (At g) h = omega arith
back_off e m Never h = h

move_on : (e m : ℕ) (g : Span) → e ≤ m → g ≤ˢ At (m - e) → (At e +ˢ g) ≤ˢ At m
move_on e m (At g) le h = omega arith
move_on e m Never le h = h

add_assoc : (s d m : ℕ) (g : Span) → (At (s + d) +ˢ g) ≤ˢ At m → (At s +ˢ (At d +ˢ g)) ≤ˢ At m
add_assoc s d m (At g) h = omega arith
add_assoc s d m Never h = h

pub nil_has : (p : ℕ) → Contains [] p → ⊥
nil_has p (k, lt, e) = omega arith

-- each end is at most the makespan
pub end_le : (t : TaskShape) (plan : List Occ) (i : ℕ) → i < length plan → end_of t (occurrence_at plan i) ≤ makespan t plan
end_le t [] i l = absurd (omega arith)
end_le t (o ∷ os) zero l = omega arith
end_le t (o ∷ os) (suc i) l = let k = end_le t os i (omega arith) in omega arith

module _ (t : TaskShape) (plan : List Occ) (inside : InBounds t) (valid : IsValid t plan) where
  -- an occurrence begins before it ends
  pub strict : (i : ℕ) → i < length plan → (occurrence_at plan i).start < end_of t (occurrence_at plan i)
  strict i l = let k : 1 ≤ (action_of t (occurrence_at plan i)).dur = (lasts t plan i inside valid l).0 in omega (arith, k)

  -- what someone needs holds when he begins
  pub held : (u : Who) (p : ℕ) → IsWithin plan u → Contains (needs_of t (kind_who plan u)) p → HoldsThen t plan (begins t plan u) p
  held begin p l has = absurd (nil_has p has)
  held finish p l has = All-contains (HoldsThen t plan (makespan t plan)) t.goal p valid.goal has
  held (place i) p l has = needs_hold t plan i p (occurrence_at plan i).start valid l has (omega arith) (strict i l)

  -- no two are ahead of each other
  pub not_both : (v w : Who) → IsWithin plan v → IsWithin plan w → IsAhead t plan v w → IsAhead t plan w v → ⊥
  not_both begin begin l m a c = a.different refl
  not_both begin finish l m a c = c.forward (refl, refl)
  not_both begin (place j) l m a c = let s = strict j m in let f = c.first in omega (arith, s, f)
  not_both finish begin l m a c = a.forward (refl, refl)
  not_both finish finish l m a c = a.different refl
  not_both finish (place j) l m a c = let s = strict j m in let f = a.first in let g = c.first in omega (arith, s, f, g)
  not_both (place i) begin l m a c = let s = strict i l in let f = a.first in omega (arith, s, f)
  not_both (place i) finish l m a c = let s = strict i l in let f = a.first in let g = c.first in omega (arith, s, f, g)
  not_both (place i) (place j) l m a c = let s = strict i l in let r = strict j m in let f = a.first in let g = c.first in omega (arith, s, r, f, g)

  -- of two that interfere one ends before the other begins
  pub apart : (i j : ℕ) → i < length plan → j < length plan → i ≢ j → Interferes (action_of t (occurrence_at plan i)) (action_of t (occurrence_at plan j)) →
      (end_of t (occurrence_at plan i) ≤ (occurrence_at plan j).start) ⊎ (end_of t (occurrence_at plan j) ≤ (occurrence_at plan i).start)
  apart i j li lj ne inter =
      elim (cases_lt (occurrence_at plan i).start (end_of t (occurrence_at plan j))) [
        | inl a ↦ elim (cases_lt (occurrence_at plan j).start (end_of t (occurrence_at plan i))) [ inl c ↦ absurd (no_clash t plan i j valid li lj ne a c inter) | inr c ↦ inl c ]
        | inr a ↦ inr a
      ]

  -- what is deleted and not added again does not hold
  gone : (d p m : ℕ) → d < length plan → Contains (action_of t (occurrence_at plan d)).dele p → end_of t (occurrence_at plan d) ≤ m →
      ((j : ℕ) → IsAdder t plan p m j → end_of t (occurrence_at plan d) ≤ end_of t (occurrence_at plan j) → ⊥) → HoldsThen t plan m p → ⊥
  gone d p m l del le none h = go (end_of t (occurrence_at plan d)) refl
    where
      go : (e : ℕ) → e ≡ end_of t (occurrence_at plan d) → ⊥
      go zero e = let s = strict d l in omega (arith, s, e)
      go (suc n) e =
          elim (since t plan p n m (omega (arith, e, le)) h) [
            | inl a ↦ (let by = added_by t plan a.0 p a.3 in
                let ends_then : end_of t (occurrence_at plan by.0) ≡ a.0 = by.1.ends in
                let low : n < a.0 = a.1 in let high : a.0 ≤ m = a.2 in
                none by.0 (record { within = by.1.within; adds = by.1.adds; ended = omega (arith, ends_then, high) }) (omega (arith, ends_then, low, e)))
            | inr k ↦ both_ways (deletes_at t plan (suc n) p) (k.1 (suc n) (omega arith) (omega (arith, e, le))).0
                (subst (λ x. deletes_at t plan x p ≡ true) (sym e) (deletes_from t plan d p l del))
          ]

  -- where w supplies what u needs, another that deletes it ends before w begins or begins after u ends
  pub cleared : (d p : ℕ) (w u : Who) → d < length plan → IsWithin plan u → Contains (action_of t (occurrence_at plan d)).dele p → Contains (needs_of t (kind_who plan u)) p →
      Supplies t plan p (begins t plan u) w → place d ≢ w → place d ≢ u → IsAhead t plan (place d) w ⊎ IsAhead t plan u (place d)
  cleared d p w u l lu del need sup nw nu = go u lu need sup nu
    where
      early : (u w : Who) → IsWithin plan u → Contains (needs_of t (kind_who plan u)) p → Supplies t plan p (begins t plan u) w → place d ≢ w → end_of t (occurrence_at plan d) ≤ begins t plan u → IsAhead t plan (place d) w
      early u begin lu need sup nw e = absurd (gone d p (begins t plan u) l del e (λ j a k. sup j a) (held u p lu need))
      early u finish lu need sup nw e = absurd sup
      early u (place c) lu need sup nw e =
          elim (apart d c l sup.adder.within (λ k. nw (ap place k)) (inl (inr (p, del, sup.adder.adds)))) [
            | inl done ↦ record { different = nw; forward = λ k. (let k0 = k.0 in cc); first = done }
            | inr late ↦ absurd (gone d p (begins t plan u) l del e
                (λ j a k. let s = strict d l in elim (sup.last j a) [ inl x ↦ omega (arith, x, k, s, late) | inr x ↦ (let y = x.0 in omega (arith, y, k, s, late)) ])
                (held u p lu need))
          ]

      go : (u : Who) → IsWithin plan u → Contains (needs_of t (kind_who plan u)) p → Supplies t plan p (begins t plan u) w → place d ≢ u → IsAhead t plan (place d) w ⊎ IsAhead t plan u (place d)
      go begin lu need sup nu = absurd (nil_has p need)
      go finish lu need sup nu = inl (early finish w lu need sup nw (end_le t plan d l))
      go (place x) lu need sup nu =
          elim (apart d x l lu (λ k. nu (ap place k)) (inl (inl (p, del, need)))) [
            | inl e ↦ inl (early (place x) w lu need sup nw e)
            | inr e ↦ inr (record { different = λ k. nu (sym k); forward = λ k. (let k0 = k.0 in cc); first = e })
          ]

  -- who supplies what u needs is ahead of u
  pub supplies_ahead : (p : ℕ) (w u : Who) → IsWithin plan u → Contains (needs_of t (kind_who plan u)) p → Supplies t plan p (begins t plan u) w → IsAhead t plan w u
  supplies_ahead p w begin l need sup = absurd (nil_has p need)
  supplies_ahead p begin finish l need sup = record { different = λ k. cc; forward = λ k. (let k0 = k.0 in cc); first = omega arith }
  supplies_ahead p begin (place x) l need sup = record { different = λ k. cc; forward = λ k. (let k0 = k.0 in cc); first = omega arith }
  supplies_ahead p finish u l need sup = absurd sup
  supplies_ahead p (place i) finish l need sup = record { different = λ k. cc; forward = λ k. (let k0 = k.0 in cc); first = sup.adder.ended }
  supplies_ahead p (place i) (place x) l need sup = record {
    different = λ k. (let k' : i ≡ x = cc in let s = strict i sup.adder.within in let e = sup.adder.ended in
        let q : (occurrence_at plan i).start ≡ (occurrence_at plan x).start = ap (λ z. (occurrence_at plan z).start) k' in omega (arith, s, e, q));
    forward = λ k. (let k0 = k.0 in cc);
    first = sup.adder.ended;
  }

  pub supplies_within : (p m : ℕ) (w : Who) → Supplies t plan p m w → IsWithin plan w
  supplies_within p m begin sup = tt
  supplies_within p m finish sup = absurd sup
  supplies_within p m (place i) sup = sup.adder.within

  -- who supplies what holds adds it
  pub supplies_adds : (p m : ℕ) (w : Who) → HoldsThen t plan m p → Supplies t plan p m w → Contains (adds_of t (kind_who plan w)) p
  supplies_adds p m begin h sup =
      elim (since t plan p 0 m (omega arith) h) [
        | inl a ↦ (let by = added_by t plan a.0 p a.3 in
            let ends_then : end_of t (occurrence_at plan by.0) ≡ a.0 = by.1.ends in let high : a.0 ≤ m = a.2 in
            absurd (sup by.0 (record { within = by.1.within; adds = by.1.adds; ended = omega (arith, ends_then, high) })))
        | inr k ↦ contains_from_in t.init p k.0
      ]
  supplies_adds p m finish h sup = absurd sup
  supplies_adds p m (place i) h sup = sup.adder.adds

module _ (t : TaskShape) (b : Tables) (plan : List Occ) (ok : IsAdmissible t b) (valid : IsValid t plan) where
  -- what he needs is bounded from the start
  pub set_by : (u : Who) → IsWithin plan u → set_span_of b.pairs (needs_of t (kind_who plan u)) ≤ˢ At (begins t plan u)
  set_by u l =
      across_le b.pairs (needs_of t (kind_who plan u)) (needs_of t (kind_who plan u)) (At (begins t plan u))
      (λ p q hp hq. pairs_bound t b.pairs ok.bounds ok.pairs plan valid (begins t plan u) p q (held t plan ok.bounds valid u p l hp) (held t plan ok.bounds valid u q l hq))

  -- and from each occurrence that has ended
  dist_by : (i : ℕ) (u : Who) → i < length plan → IsWithin plan u → end_of t (occurrence_at plan i) ≤ begins t plan u →
      (At (end_of t (occurrence_at plan i)) +ˢ most_dist b.dists (occurrence_at plan i).act (needs_of t (kind_who plan u))) ≤ˢ At (begins t plan u)
  dist_by i u l m e =
      move_on (end_of t (occurrence_at plan i)) (begins t plan u) (most_dist b.dists (occurrence_at plan i).act (needs_of t (kind_who plan u))) e
      (over_le (dist_at b.dists (occurrence_at plan i).act) (needs_of t (kind_who plan u)) (At (begins t plan u - end_of t (occurrence_at plan i)))
      (all_from (λ p. dist_at b.dists (occurrence_at plan i).act p ≤ˢ At (begins t plan u - end_of t (occurrence_at plan i))) (needs_of t (kind_who plan u))
      (λ p has. back_off (end_of t (occurrence_at plan i)) (begins t plan u) (dist_at b.dists (occurrence_at plan i).act p)
      (dists_bound t b.pairs b.dists ok.bounds ok.pairs ok.dists plan valid (occurrence_at plan i) (i, l, sym (get_or_default plan i (record { act = 0; start = 0 }) (occurrence_at plan i) l)) (begins t plan u) p e (held t plan ok.bounds valid u p m has)))))

  after : (i : ℕ) (u : Who) → i < length plan → IsWithin plan u → end_of t (occurrence_at plan i) ≤ begins t plan u →
      (At (occurrence_at plan i).start +ˢ reach t b (Act (occurrence_at plan i).act) (needs_of t (kind_who plan u))) ≤ˢ At (begins t plan u)
  after i u l m e =
      subst (λ (c : Bool). (At (occurrence_at plan i).start +ˢ (if c then At (nth_action t (occurrence_at plan i).act).dur +ˢ most_dist b.dists (occurrence_at plan i).act (needs_of t (kind_who plan u)) else Never)) ≤ˢ At (begins t plan u))
      (sym (lt-ltb (occurrence_at plan i).act (length t.actions) (valid.of_task i (record { act = 0; start = 0 }) l)))
      (add_assoc (occurrence_at plan i).start (nth_action t (occurrence_at plan i).act).dur (begins t plan u) (most_dist b.dists (occurrence_at plan i).act (needs_of t (kind_who plan u)))
      (dist_by i u l m e))

  pub keeps_gaps : KeepsGaps t b plan
  keeps_gaps begin begin l m a = absurd (a.different refl)
  keeps_gaps begin finish l m a = zero_add_le (set_span_of b.pairs t.goal) (makespan t plan) (set_by finish tt)
  keeps_gaps begin (place j) l m a = zero_add_le (set_span_of b.pairs (nth_action t (occurrence_at plan j).act).pre) (occurrence_at plan j).start (set_by (place j) m)
  keeps_gaps finish begin l m a = absurd (a.forward (refl, refl))
  keeps_gaps finish finish l m a = absurd (a.different refl)
  keeps_gaps finish (place j) l m a = let e = end_le t plan j m in let s = strict t plan ok.bounds valid j m in let f = a.first in absurd (omega (arith, e, s, f))
  keeps_gaps (place i) begin l m a = let s = strict t plan ok.bounds valid i l in let f = a.first in absurd (omega (arith, s, f))
  keeps_gaps (place i) finish l m a = after i finish l tt a.first
  keeps_gaps (place i) (place j) l m a = after i (place j) l m a.first

-- only one supplies
pub supplies_one : (t : TaskShape) (plan : List Occ) (p m : ℕ) (v w : Who) → Supplies t plan p m v → Supplies t plan p m w → v ≡ w
supplies_one t plan p m begin begin h k = refl
supplies_one t plan p m begin finish h k = absurd k
supplies_one t plan p m begin (place j) h k = absurd (h j k.adder)
supplies_one t plan p m finish w h k = absurd h
supplies_one t plan p m (place i) begin h k = absurd (k i h.adder)
supplies_one t plan p m (place i) finish h k = absurd k
supplies_one t plan p m (place i) (place j) h k =
    ap place (elim (h.last j k.adder) [
      | inl a ↦ elim (k.last i h.adder) [ inl c ↦ absurd (omega (arith, a, c)) | inr c ↦ (let c0 = c.0 in absurd (omega (arith, a, c0))) ]
      | inr a ↦ elim (k.last i h.adder) [ inl c ↦ (let a0 = a.0 in absurd (omega (arith, a0, c))) | inr c ↦ (let a1 = a.1 in let c1 = c.1 in omega (arith, a1, c1)) ]
    ])

-- the last adder among the first n places
abbrev Among : TaskShape → List Occ → ℕ → ℕ → ℕ → Type 0
Among t plan p m n = ((j : ℕ) → j < n → IsAdder t plan p m j → ⊥) ⊎ ((i : ℕ) × (i < n) × IsAdder t plan p m i × ((j : ℕ) → j < n → IsAdder t plan p m j → IsNoEarlier t plan i j))

adder_cases : (t : TaskShape) (plan : List Occ) (p m j : ℕ) → j < length plan → IsAdder t plan p m j ⊎ (IsAdder t plan p m j → ⊥)
adder_cases t plan p m j l =
    elim (contains_cases (action_of t (occurrence_at plan j)).add p) [
      | inr never ↦ inr (λ a. never a.adds)
      | inl has ↦ elim (cases_lt m (end_of t (occurrence_at plan j))) [
        | inl late ↦ inr (λ a. let e = a.ended in omega (arith, e, late))
        | inr e ↦ inl (record { within = l; adds = has; ended = e })
      ]
    ]

among : (t : TaskShape) (plan : List Occ) (p m n : ℕ) → n ≤ length plan → Among t plan p m n
among t plan p m zero b = inl (λ j l a. omega arith)
among t plan p m (suc n) b = go (among t plan p m n (omega arith)) (adder_cases t plan p m n (omega arith))
  where
    go : Among t plan p m n → (IsAdder t plan p m n ⊎ (IsAdder t plan p m n → ⊥)) → Among t plan p m (suc n)
    go (inl none) (inr no_n) = inl (λ j l a. elim (cases_eq j n) [ inl e ↦ no_n (subst (IsAdder t plan p m) e a) | inr e ↦ none j (omega (arith, l, e)) a ])
    go (inl none) (inl add) = inr (n, omega arith, add, λ j l a. elim (cases_eq j n) [ inl e ↦ inr (ap (λ z. end_of t (occurrence_at plan z)) e, omega (arith, e)) | inr e ↦ absurd (none j (omega (arith, l, e)) a) ])
    go (inr some) (inr no_n) = inr (some.0, (let l = some.1 in omega (arith, l)), some.2, λ j l a. elim (cases_eq j n) [ inl e ↦ absurd (no_n (subst (IsAdder t plan p m) e a)) | inr e ↦ some.3 j (omega (arith, l, e)) a ])
    go (inr some) (inl add) =
        elim (cases_lt (end_of t (occurrence_at plan some.0)) (end_of t (occurrence_at plan n))) [
          | inl late ↦ inr (
            n,
            omega arith,
            add,
            λ j l a. elim (cases_eq j n) [
              | inl e ↦ inr (ap (λ z. end_of t (occurrence_at plan z)) e, omega (arith, e))
              | inr e ↦ elim (some.3 j (omega (arith, l, e)) a) [ inl k ↦ inl (omega (arith, k, late)) | inr k ↦ inl (let k0 = k.0 in omega (arith, k0, late)) ]
            ],
          )
          | inr early ↦ inr (
            some.0,
            (let l = some.1 in omega (arith, l)),
            some.2,
            λ j l a. elim (cases_eq j n) [
              | inl e ↦ elim (cases_eq (end_of t (occurrence_at plan n)) (end_of t (occurrence_at plan some.0))) [
                | inl k ↦ inr (ap (λ z. end_of t (occurrence_at plan z)) e ∙ k, (let l' = some.1 in omega (arith, l', e)))
                | inr k ↦ inl (let e' : end_of t (occurrence_at plan j) ≡ end_of t (occurrence_at plan n) = ap (λ z. end_of t (occurrence_at plan z)) e in omega (arith, e', k, early))
              ]
              | inr e ↦ some.3 j (omega (arith, l, e)) a
            ],
          )
        ]

-- who supplies the atom before a moment
pub supplier : (t : TaskShape) (plan : List Occ) (p m : ℕ) → (w : Who) × Supplies t plan p m w
supplier t plan p m = elim (among t plan p m (length plan) (omega arith)) [
  | inl none ↦ (begin, λ j a. none j a.within a)
  | inr some ↦ (place some.0, record { adder = some.2; last = λ j a. some.3 j a.within a })
]

pub gaps_kept : GapsKept
gaps_kept t b plan ok valid = keeps_gaps t b plan ok valid

pub deleters_keep_away : DeletersKeepAway
deleters_keep_away t plan d p w u inside valid l lu del need sup nw nu = cleared t plan inside valid d p w u l lu del need sup nw nu

pub goal_bounds : GoalBounds
goal_bounds t b plan ok valid = set_by t b plan ok valid finish tt
