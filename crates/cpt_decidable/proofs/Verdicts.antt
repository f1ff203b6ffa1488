-- each plan of a task has a verdict
use Rattle.std.proofs.Common.{◌≡◌, ℕ, suc, ◌<◌, ◌≤◌, ◌⊎◌, inl, inr, Bool, true, false, List, length, get_or, All, Contains, refl, sym, subst, arith}
use Rattle.std.proofs.lemmas.List.{get_or_default}
use Rattle.std.proofs.lemmas.List.Elements.{Contains-get_or}
use Rattle.cpt_task.specs.declared.plan.Occ.{Occ}
use Rattle.cpt_task.specs.declared.plan.Verdict.{Verdict}
use Rattle.cpt_task.specs.declared.plan.Verdict.TheVariants.{Valid, Overlap, Unmet, GoalMissing}
use Rattle.cpt_task.specs.Shape.{TaskShape}
use Rattle.cpt_task.specs.Timeline.{IsApart, IsMet, HoldsFrom, HoldsThen, Clashes, makespan, action_of, end_of, occurrence_at, holds_at}
use Rattle.cpt_task.specs.Judging.{Judges, IsFirstClash, IsFirstGap, IsFirstNeedOf, IsFirstUnmet, IsFirstMissingOf}
use Rattle.cpt_decidable.specs.Decidable.{IsDecidable}
use Rattle.cpt_decidable.specs.Laws.{EachPlanHasAVerdict}
use Rattle.cpt_decidable.proofs.Deciding.{both, denied, is_less, is_at_most, is_test, is_in_list, is_some_in, is_some_below, first_below}
use Rattle.cpt_decidable.proofs.Plans.{is_clash, is_held_from, is_met}

-- the least number of which a decidable fact holds
least_of : (P : ℕ → Type 0) → ((k : ℕ) → IsDecidable (P k)) → (w : ℕ) → P w → (k : ℕ) × P k × ((j : ℕ) → j < k → P j → ⊥)
least_of P known w p = elim (first_below P known (suc w)) [ inl h ↦ (h.0, h.2, h.3) | inr none ↦ absurd (none w (omega arith) p) ]

-- what does not hold of each of a list fails at one
all_or_some : {X : Type 0} (P : X → Type 0) → ((x : X) → IsDecidable (P x)) → (xs : List X) → All P xs ⊎ ((x : X) × Contains xs x × (P x → ⊥))
all_or_some {X} P known xs = go (is_some_in (λ x. P x → ⊥) (λ x. denied (known x)) xs)
  where
    held : (x : X) → IsDecidable (P x) → ((P x → ⊥) → ⊥) → P x
    held x (inl p) none = p
    held x (inr n) none = absurd (none n)

    go : IsDecidable ((x : X) × Contains xs x × (P x → ⊥)) → All P xs ⊎ ((x : X) × Contains xs x × (P x → ⊥))
    go (inl some) = inr some
    go (inr none) = inl (λ k d lt. held (get_or xs k d) (known (get_or xs k d)) (λ n. none (get_or xs k d, Contains-get_or xs k d lt, n)))

true_else : (b : Bool) → (b ≡ false → ⊥) → b ≡ true
true_else true h = refl
true_else false h = absurd (h refl)

module _ (t : TaskShape) (plan : List Occ) where
  -- the occurrence at i clashes with that at j, which is behind it
  ClashesBehind : ℕ → ℕ → Type 0
  ClashesBehind i j = (i < j) × Clashes t plan i j

  clashes_behind : (i j : ℕ) → IsDecidable (ClashesBehind i j)
  unfolding ClashesBehind
  clashes_behind i j = both (is_less i j) (is_clash t plan i j)

  clash_or_apart : ((i : ℕ) × (j : ℕ) × IsFirstClash t plan i j) ⊎ IsApart t plan
  unfolding ClashesBehind
  clash_or_apart = go (first_below (λ i. (j : ℕ) × (j < length plan) × ClashesBehind i j) (λ i. is_some_below (ClashesBehind i) (clashes_behind i) (length plan)) (length plan))
    where
      second : (i : ℕ) → ((j : ℕ) × (j < length plan) × ClashesBehind i j) → ((k : ℕ) → k < i → ((j : ℕ) × (j < length plan) × ClashesBehind k j) → ⊥)
          → (((j : ℕ) × (j < length plan) × ClashesBehind i j × ((k : ℕ) → k < j → ClashesBehind i k → ⊥)) ⊎ ((j : ℕ) → j < length plan → ClashesBehind i j → ⊥)) → (j : ℕ) × IsFirstClash t plan i j
      second i some before (inl g) = (
        g.0,
        record {
          second = record { ordered = g.2.0; within = g.1; clash = g.2.1; none_before = λ k lt behind clash. g.3 k lt (behind, clash) };
          first = λ k lt j short behind clash. before k lt (j, short, (behind, clash));
        },
      )
      second i some before (inr none) = absurd (none some.0 some.1 some.2)

      go : (((i : ℕ) × (i < length plan) × ((j : ℕ) × (j < length plan) × ClashesBehind i j) × ((k : ℕ) → k < i → ((j : ℕ) × (j < length plan) × ClashesBehind k j) → ⊥)) ⊎ ((i : ℕ) → i < length plan → ((j : ℕ) × (j < length plan) × ClashesBehind i j) → ⊥))
          → ((i : ℕ) × (j : ℕ) × IsFirstClash t plan i j) ⊎ IsApart t plan
      go (inl g) = let h = second g.0 g.2 g.3 (first_below (ClashesBehind g.0) (clashes_behind g.0) (length plan)) in inl (g.0, h.0, h.1)
      go (inr none) = inr (λ i j lt short clash. none i (omega (arith, lt, short)) (j, short, (lt, clash)))

  first_gap : (from to p : ℕ) → (HoldsFrom t plan from to p → ⊥) → (time : ℕ) × IsFirstGap t plan from to p time
  first_gap from to p fails = go (first_below (λ time. (from ≤ time) × (holds_at t plan time p ≡ false)) (λ time. both (is_at_most from time) (is_test (holds_at t plan time p) false)) to)
    where
      go : (((time : ℕ) × (time < to) × ((from ≤ time) × (holds_at t plan time p ≡ false)) × ((j : ℕ) → j < time → ((from ≤ j) × (holds_at t plan j p ≡ false)) → ⊥)) ⊎ ((time : ℕ) → time < to → ((from ≤ time) × (holds_at t plan time p ≡ false)) → ⊥))
          → (time : ℕ) × IsFirstGap t plan from to p time
      go (inl g) = (g.0, record { low = g.2.0; high = g.1; gap = g.2.1; before = λ j low high. true_else (holds_at t plan j p) (λ e. g.3 j high (low, e)) })
      go (inr none) = absurd (fails (λ j low high. true_else (holds_at t plan j p) (λ e. none j high (low, e))))

  first_need : (o : Occ) → (IsMet t plan o → ⊥) → (p : ℕ) × (time : ℕ) × IsFirstNeedOf t plan (action_of t o).pre o.start (end_of t o) p time
  first_need o fails = go (all_or_some (HoldsFrom t plan o.start (end_of t o)) (λ p. is_held_from t plan o.start (end_of t o) p) (action_of t o).pre)
    where
      pre : List ℕ
      pre = (action_of t o).pre

      held : (q : ℕ) → IsDecidable (HoldsFrom t plan o.start (end_of t o) q) → ((HoldsFrom t plan o.start (end_of t o) q → ⊥) → ⊥) → HoldsFrom t plan o.start (end_of t o) q
      held q (inl h) none = h
      held q (inr n) none = absurd (none n)

      least : (p : ℕ) × (Contains pre p × (HoldsFrom t plan o.start (end_of t o) p → ⊥)) × ((j : ℕ) → j < p → (Contains pre j × (HoldsFrom t plan o.start (end_of t o) j → ⊥)) → ⊥)
          → (p : ℕ) × (time : ℕ) × IsFirstNeedOf t plan pre o.start (end_of t o) p time
      least (p, lacks, before) = let g = first_gap o.start (end_of t o) p lacks.1 in
          (p, g.0, record { needed = lacks.0; gap = g.1; before = λ q has lt. held q (is_held_from t plan o.start (end_of t o) q) (λ n. before q lt (has, n)) })

      go : (All (HoldsFrom t plan o.start (end_of t o)) pre ⊎ ((p : ℕ) × Contains pre p × (HoldsFrom t plan o.start (end_of t o) p → ⊥))) → (p : ℕ) × (time : ℕ) × IsFirstNeedOf t plan pre o.start (end_of t o) p time
      go (inl met) = absurd (fails met)
      go (inr some) = least (least_of (λ p. Contains pre p × (HoldsFrom t plan o.start (end_of t o) p → ⊥)) (λ p. both (is_in_list pre p) (denied (is_held_from t plan o.start (end_of t o) p))) some.0 (some.1, some.2))

  unmet_or_met : ((i : ℕ) × (p : ℕ) × (time : ℕ) × IsFirstUnmet t plan i p time) ⊎ All (IsMet t plan) plan
  unmet_or_met = go (first_below (λ i. IsMet t plan (occurrence_at plan i) → ⊥) (λ i. denied (is_met t plan (occurrence_at plan i))) (length plan))
    where
      met : (o : Occ) → IsDecidable (IsMet t plan o) → ((IsMet t plan o → ⊥) → ⊥) → IsMet t plan o
      met o (inl h) none = h
      met o (inr n) none = absurd (none n)

      at : (k : ℕ) (d : Occ) → k < length plan → get_or plan k d ≡ occurrence_at plan k
      at k d lt = get_or_default plan k d (record { act = 0; start = 0 }) lt

      go : (((i : ℕ) × (i < length plan) × (IsMet t plan (occurrence_at plan i) → ⊥) × ((j : ℕ) → j < i → (IsMet t plan (occurrence_at plan j) → ⊥) → ⊥)) ⊎ ((i : ℕ) → i < length plan → (IsMet t plan (occurrence_at plan i) → ⊥) → ⊥))
          → ((i : ℕ) × (p : ℕ) × (time : ℕ) × IsFirstUnmet t plan i p time) ⊎ All (IsMet t plan) plan
      go (inl g) = let h = first_need (occurrence_at plan g.0) g.2 in
          inl (g.0, h.0, h.1, record { within = g.1; need = h.2; before = λ k lt. met (occurrence_at plan k) (is_met t plan (occurrence_at plan k)) (g.3 k lt) })
      go (inr none) = inr (λ k d lt. subst (IsMet t plan) (sym (at k d lt)) (met (occurrence_at plan k) (is_met t plan (occurrence_at plan k)) (none k lt)))

  missing_or_reached : (goal : List ℕ) (time : ℕ) → ((p : ℕ) × IsFirstMissingOf t plan goal time p) ⊎ All (HoldsThen t plan time) goal
  missing_or_reached goal time = go (all_or_some (HoldsThen t plan time) (λ p. is_test (holds_at t plan time p) true) goal)
    where
      false_else : (b : Bool) → (b ≡ true → ⊥) → b ≡ false
      false_else true h = absurd (h refl)
      false_else false h = refl

      least : (p : ℕ) × (Contains goal p × (holds_at t plan time p ≡ false)) × ((j : ℕ) → j < p → (Contains goal j × (holds_at t plan time j ≡ false)) → ⊥) → (p : ℕ) × IsFirstMissingOf t plan goal time p
      least (p, lacks, before) = (p, record { wanted = lacks.0; missing = lacks.1; before = λ q has lt. true_else (holds_at t plan time q) (λ e. before q lt (has, e)) })

      go : (All (HoldsThen t plan time) goal ⊎ ((p : ℕ) × Contains goal p × (HoldsThen t plan time p → ⊥))) → ((p : ℕ) × IsFirstMissingOf t plan goal time p) ⊎ All (HoldsThen t plan time) goal
      go (inl all) = inr all
      go (inr some) = inl (least (least_of (λ p. Contains goal p × (holds_at t plan time p ≡ false)) (λ p. both (is_in_list goal p) (is_test (holds_at t plan time p) false)) some.0
          (some.1, false_else (holds_at t plan time some.0) some.2)))

-- a plan of the task has a verdict
pub verdict_of : EachPlanHasAVerdict
verdict_of t plan of_task = overlap (clash_or_apart t plan)
  where
    goal : IsApart t plan → All (IsMet t plan) plan → (((p : ℕ) × IsFirstMissingOf t plan t.goal (makespan t plan) p) ⊎ All (HoldsThen t plan (makespan t plan)) t.goal) → (v : Verdict) × Judges t plan v
    goal apart met (inl h) = (GoalMissing h.0, (apart, met, h.1))
    goal apart met (inr all) = (Valid (makespan t plan), (record { of_task = of_task; apart = apart; met = met; goal = all }, refl))

    need : IsApart t plan → (((i : ℕ) × (p : ℕ) × (time : ℕ) × IsFirstUnmet t plan i p time) ⊎ All (IsMet t plan) plan) → (v : Verdict) × Judges t plan v
    need apart (inl h) = (Unmet h.0 h.1 h.2, (apart, h.3))
    need apart (inr met) = goal apart met (missing_or_reached t plan t.goal (makespan t plan))

    overlap : (((i : ℕ) × (j : ℕ) × IsFirstClash t plan i j) ⊎ IsApart t plan) → (v : Verdict) × Judges t plan v
    overlap (inl h) = (Overlap h.0 h.1, h.2)
    overlap (inr apart) = need apart (unmet_or_met t plan)
