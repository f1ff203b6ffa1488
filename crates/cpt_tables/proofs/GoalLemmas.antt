-- a goal of value 0 holds at first
use Rattle.std.proofs.Common.{◌≡◌, ◌≢◌, ℕ, ◌≤◌, ◌<◌, ◌⊎◌, inl, inr, true, false, length, Contains, sym, subst, arith}
use Rattle.std.proofs.lemmas.Bool.{cases_Bool, cases_eq}
use Rattle.std.proofs.lemmas.List.Elements.{All-contains}
use Rattle.cpt_task.specs.declared.task.Action.{Action}
use Rattle.cpt_task.specs.declared.span.Span.{Span}
use Rattle.cpt_task.specs.declared.span.Span.TheVariants.{At, Never}
use Rattle.cpt_task.specs.Shape.{TaskShape, InBounds, IsDuration}
use Rattle.cpt_task.specs.Timeline.{is_in}
use Rattle.cpt_tables.specs.Admissible.{IsPairLimit, IsAdmissiblePairs, limit_by_one, limit_by_two}
use Rattle.cpt_tables.specs.Admissible.IsPairLimit.{at_start, by_one, beside, beside_exchanged, by_two}
use Rattle.cpt_tables.specs.Greatest.{IsGreatestPairs, ArePairsBelow}
use Rattle.cpt_tables.specs.Shapes.{PairShape, IsWholePairs, IsSamePair, SetsPair, pair_at, with_pair, set_span_of}
use Rattle.cpt_tables.specs.Spans.{◌≤ˢ◌, ◌+ˢ◌}
use Rattle.cpt_tables.proofs.GrowLemmas.{pair_limit_grows}
use Rattle.cpt_tables.proofs.PlaceLemmas.{sets_pair}
use Rattle.cpt_tables.proofs.SpanLemmas.{le_refl, le_trans, max_left}
use Rattle.cpt_tables.proofs.SetLemmas.{le_across}
use Rattle.cpt_tables.specs.Unique.{ZeroGoalsHold}
use Rattle.cpt_tables.proofs.PlanFacts.{contains_from_in, in_from_contains}

is_same_pair : (r s p : ℕ) → IsSamePair r s p p ⊎ (IsSamePair r s p p → ⊥)
is_same_pair r s p = go (cases_eq r p) (cases_eq s p)
  where
    go : (r ≡ p) ⊎ (r ≢ p) → (s ≡ p) ⊎ (s ≢ p) → IsSamePair r s p p ⊎ (IsSamePair r s p p → ⊥)
    go (inl e) (inl f) = inl (inl (e, f))
    go (inr n) f = inr (λ h. elim h [ inl k ↦ n k.0 | inr k ↦ n k.0 ])
    go (inl e) (inr n) = inr (λ h. elim h [ inl k ↦ n k.1 | inr k ↦ n k.1 ])

one_at_least : (v : Span) (d : ℕ) → 1 ≤ d → At 1 ≤ˢ (v +ˢ At d)
one_at_least (At n) d le = omega arith
one_at_least Never d le = tt

module _ (t : TaskShape) (h : PairShape) (inside : InBounds t) (whole : IsWholePairs h) (size : h.atoms ≡ length t.atoms) (best : IsGreatestPairs t h) (p : ℕ) (lp : p < length t.atoms) (here : pair_at h p p ≤ˢ At 0)
    (missing : Contains t.init p → ⊥) where
  raised : PairShape
  raised = with_pair h p p (At 1)

  sets : SetsPair h (with_pair h p p (At 1)) p p (At 1)
  sets = sets_pair h p p (At 1) whole (subst (λ n. p < n) (sym size) lp) (subst (λ n. p < n) (sym size) lp)

  at_pair : (r s : ℕ) → IsSamePair r s p p → (r ≡ p) × (s ≡ p)
  at_pair r s (inl k) = k
  at_pair r s (inr k) = k

  below : ArePairsBelow t h (with_pair h p p (At 1))
  below r s lr ls = go (is_same_pair r s p)
    where
      go : IsSamePair r s p p ⊎ (IsSamePair r s p p → ⊥) → pair_at h r s ≤ˢ pair_at (with_pair h p p (At 1)) r s
      go (inl k) =
          let e = at_pair r s k in
          subst (λ x. pair_at h x s ≤ˢ pair_at (with_pair h p p (At 1)) x s) (sym e.0) (subst (λ x. pair_at h p x ≤ˢ pair_at (with_pair h p p (At 1)) p x) (sym e.1)
          (subst (λ v. pair_at h p p ≤ˢ v) (sym sets.here) (le_trans (pair_at h p p) (At 0) (At 1) here (omega arith))))
      go (inr n) = subst (λ v. pair_at h r s ≤ˢ v) (sym (sets.others r s (subst (λ m. r < m) (sym size) lr) (subst (λ m. s < m) (sym size) ls) n)) (le_refl (pair_at h r s))

  lasts_one : (c : Action) → Contains t.actions c → 1 ≤ c.dur
  lasts_one c m = (All-contains (λ a. IsDuration a.dur) t.actions c inside.durations m).0

  own : (g : PairShape) (v : Span) → IsPairLimit t g p p v → At 1 ≤ˢ v
  own g v (at_start m) = absurd (missing m.0)
  own g v (by_one m) = subst (λ x. At 1 ≤ˢ x) (sym m.4) (one_at_least (set_span_of g m.0.pre) m.0.dur (lasts_one m.0 m.1))
  own g v (beside m) = subst (λ x. At 1 ≤ˢ x) (sym m.4) (one_at_least _ m.0.dur (lasts_one m.0 m.1))
  own g v (beside_exchanged m) = subst (λ x. At 1 ≤ˢ x) (sym m.4) (one_at_least _ m.0.dur (lasts_one m.0 m.1))
  own g v (by_two m) = subst (λ x. At 1 ≤ˢ x) (sym m.7) (le_trans (At 1) (limit_by_one g m.0) (limit_by_two g m.0 m.1) (one_at_least (set_span_of g m.0.pre) m.0.dur (lasts_one m.0 m.2)) (max_left (limit_by_one g m.0) _))

  admissible : IsAdmissiblePairs t (with_pair h p p (At 1))
  admissible r s lr ls v limit = go (is_same_pair r s p)
    where
      go : IsSamePair r s p p ⊎ (IsSamePair r s p p → ⊥) → pair_at (with_pair h p p (At 1)) r s ≤ˢ v
      go (inl k) =
          let e = at_pair r s k in
          let l : IsPairLimit t (with_pair h p p (At 1)) p p v = subst (λ x. IsPairLimit t (with_pair h p p (At 1)) p x v) e.1 (subst (λ x. IsPairLimit t (with_pair h p p (At 1)) x s v) e.0 limit) in
          subst (λ x. pair_at (with_pair h p p (At 1)) x s ≤ˢ v) (sym e.0) (subst (λ x. pair_at (with_pair h p p (At 1)) p x ≤ˢ v) (sym e.1) (subst (λ x. x ≤ˢ v) (sym sets.here) (own (with_pair h p p (At 1)) v l)))
      go (inr n) =
          let w = pair_limit_grows t h (with_pair h p p (At 1)) r s v inside below lr ls limit in
          subst (λ x. x ≤ˢ v) (sym (sets.others r s (subst (λ m. r < m) (sym size) lr) (subst (λ m. s < m) (sym size) ls) n)) (le_trans (pair_at h r s) w.0 v (best.admissible r s lr ls w.0 w.1) w.2)

  impossible : ⊥
  impossible = no (pair_at h p p) here (subst (λ x. x ≤ˢ pair_at h p p) sets.here (best.greatest (with_pair h p p (At 1)) admissible p p lp lp))
    where
      no : (v : Span) → v ≤ˢ At 0 → At 1 ≤ˢ v → ⊥
      no (At n) a b = omega arith
      no Never a b = absurd a

pub zero_goals : ZeroGoalsHold
zero_goals t h inside whole size best e p c = go (cases_Bool (is_in p t.init))
  where
    lp : p < length t.atoms
    lp = All-contains (λ q. q < length t.atoms) t.goal p inside.goal c

    here : pair_at h p p ≤ˢ At 0
    here = subst (λ v. pair_at h p p ≤ˢ v) e (le_across h t.goal t.goal p p c c)

    go : (is_in p t.init ≡ true) ⊎ (is_in p t.init ≡ false) → Contains t.init p
    go (inl m) = contains_from_in t.init p m
    go (inr n) = absurd (impossible t h inside whole size best p lp here (λ m. both (in_from_contains t.init p m) n))
      where
        both : is_in p t.init ≡ true → is_in p t.init ≡ false → ⊥
        both a b = cc
