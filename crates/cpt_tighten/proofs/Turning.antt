use Rattle.std.proofs.Common.{Result, Ok, Err, IfOk, ◌≡◌, ℕ, zero, suc, ◌<◌, ◌≤◌, ◌⊎◌, inl, inr, List, [], ◌∷◌, length, get_or, sym, ap, subst, arith, All, Contains}
use Rattle.std.proofs.lemmas.List.Elements.{Contains-get_or}
use Rattle.cpt_task.specs.declared.task.Action.{Action}
use Rattle.cpt_task.specs.declared.plan.Occ.{Occ}
use Rattle.cpt_task.specs.Shape.{TaskShape, InBounds}
use Rattle.cpt_task.specs.Interference.{Interferes}
use Rattle.cpt_task.specs.Timeline.{action_of, end_of, makespan, occurrence_at, HoldsFrom, HoldsThen, IsMet, IsOccurrence, IsValid}
use Rattle.cpt_task.proofs.Meeting.{none_clash}
use Rattle.std.proofs.lemmas.List.Elements.{All-contains}
use Rattle.cpt_tighten.specs.Laws.{SchedulesAreValid}
use Rattle.cpt_tighten.specs.Needs.{IsLastAdder}
use Rattle.cpt_tighten.specs.declared.tightening.Tight.{Tight}
use Rattle.cpt_tighten.specs.Schedules.{IsEarliest, IsSchedule, KeepsNeeds}
use Rattle.cpt_tighten.proofs.Adding.{added_since, holds_since, holds_still, initial}
use Rattle.cpt_tighten.proofs.Latest.{at_most, compared, last_adder}
use Rattle.cpt_tighten.proofs.Places.{lasts, none, read_at, same_action}

-- a valid plan and a schedule of it that keeps its needs
pub record Scheduled (t : TaskShape) (plan other : List Occ) : Type 0 where
  pub bounds : InBounds t
  pub valid : IsValid t plan
  pub schedule : IsSchedule plan other
  pub keeps : KeepsNeeds t plan other

-- two places where neither overlaps the other
in_order : (s e u f : ℕ) → (s < f → u < e → ⊥) → (e ≤ u) ⊎ (f ≤ s)
in_order s e u f apart = elim (compared s f) [ inl low ↦ elim (compared u e) [ inl high ↦ absurd (apart low high) | inr le ↦ inl le ] | inr le ↦ inr le ]

-- of two places that interfere, one ends before the other starts, in the plan and in the schedule
in_turn : (t : TaskShape) (plan other : List Occ) (i k : ℕ) → Scheduled t plan other → i < length plan → k < length plan → (k ≡ i → ⊥)
    → Interferes (action_of t (occurrence_at plan i)) (action_of t (occurrence_at plan k))
    → ((end_of t (occurrence_at plan i) ≤ (occurrence_at plan k).start) × (end_of t (occurrence_at other i) ≤ (occurrence_at other k).start))
    ⊎ ((end_of t (occurrence_at plan k) ≤ (occurrence_at plan i).start) × (end_of t (occurrence_at other k) ≤ (occurrence_at other i).start))
in_turn t plan other i k s li lk apart clash =
    elim (in_order (occurrence_at plan i).start (end_of t (occurrence_at plan i)) (occurrence_at plan k).start (end_of t (occurrence_at plan k))
    (λ a b. none_clash t plan i k s.valid.apart li lk apart (record { first = a; second = b }, clash))) [
      | inl le ↦ inl (le, s.keeps i k (record { first = li; second = lk; ended = le; cause = inl clash }))
      | inr le ↦ inr (le, s.keeps k i (record { first = lk; second = li; ended = le; cause = inl (swapped (action_of t (occurrence_at plan i)) (action_of t (occurrence_at plan k)) clash) }))
    ]
  where
    swapped : (a b : Action) → Interferes a b → Interferes b a
    swapped a b (inl d) = inr d
    swapped a b (inr d) = inl d

-- an occurrence of a schedule ends after it starts
lasts_too : (t : TaskShape) (plan other : List Occ) (k : ℕ) → Scheduled t plan other → k < length plan → (occurrence_at other k).start < end_of t (occurrence_at other k)
lasts_too t plan other k s lt =
    let dur : (action_of t (occurrence_at other k)).dur ≡ (action_of t (occurrence_at plan k)).dur = ap (λ (a : Action). a.dur) (same_action t plan other k s.schedule) in
    let long : (occurrence_at plan k).start < end_of t (occurrence_at plan k) = lasts t plan k s.bounds s.valid.of_task lt in
    omega (arith, dur, long)

-- Where an atom holds in the plan at a moment, and there i was the last to add it, each who deletes it has ended in the schedule no
-- later than i, unless it comes after the moment in the plan.
deleted_before : (t : TaskShape) (plan other : List Occ) (p moment i d : ℕ) → Scheduled t plan other → HoldsThen t plan moment p → IsLastAdder t plan p moment i → d < length plan
    → Contains (action_of t (occurrence_at plan d)).dele p → end_of t (occurrence_at plan d) ≤ moment → end_of t (occurrence_at other d) ≤ end_of t (occurrence_at other i)
deleted_before t plan other p moment i d s holds last ld has le =
    elim (compared i d) [
      | inl lt ↦ apart (λ e. omega (arith, e, lt))
      | inr ge ↦ elim (compared d i) [ inl lt ↦ apart (λ e. omega (arith, e, lt)) | inr too ↦ same (omega (arith, ge, too)) ]
    ]
  where
    same : d ≡ i → end_of t (occurrence_at other d) ≤ end_of t (occurrence_at other i)
    same e = subst (λ x. end_of t (occurrence_at other d) ≤ end_of t (occurrence_at other x)) e (omega arith)

    apart : (d ≡ i → ⊥) → end_of t (occurrence_at other d) ≤ end_of t (occurrence_at other i)
    apart ne =
        elim (in_turn t plan other i d s last.among.within ld ne (inr (inr (p, has, last.among.adds)))) [
          | inl after ↦
              let long : (occurrence_at plan d).start < end_of t (occurrence_at plan d) = lasts t plan d s.bounds s.valid.of_task ld in
              let since = added_since t plan p moment d holds ld has (omega (arith, long)) le in
              let no_later : end_of t (occurrence_at plan since.0) ≤ end_of t (occurrence_at plan i) = at_most (end_of t (occurrence_at plan i)) (end_of t (occurrence_at plan since.0)) i since.0 (last.last since.0 since.1) in
              absurd (omega (arith, no_later, since.2, long, after.0))
          | inr before ↦
              let long : (occurrence_at other i).start < end_of t (occurrence_at other i) = lasts_too t plan other i s last.among.within in
              omega (arith, before.1, long)
        ]

-- who of a schedule adds, as in the plan
adds_too : (t : TaskShape) (plan other : List Occ) (k p : ℕ) → IsSchedule plan other → Contains (action_of t (occurrence_at plan k)).add p → Contains (action_of t (occurrence_at other k)).add p
adds_too t plan other k p s has = subst (λ (a : Action). Contains a.add p) (sym (same_action t plan other k s)) has

deletes_first : (t : TaskShape) (plan other : List Occ) (k p : ℕ) → IsSchedule plan other → Contains (action_of t (occurrence_at other k)).dele p → Contains (action_of t (occurrence_at plan k)).dele p
deletes_first t plan other k p s has = subst (λ (a : Action). Contains a.dele p) (same_action t plan other k s) has

-- Where an atom holds in the plan at a moment, it holds in the schedule at another, if whoever deletes it by then in the schedule does
-- so by the first moment in the plan, and so for the last adder the other way round.
carries_over : (t : TaskShape) (plan other : List Occ) (p moment time : ℕ) → Scheduled t plan other → HoldsThen t plan moment p
    → ((d : ℕ) → d < length plan → Contains (action_of t (occurrence_at plan d)).dele p → end_of t (occurrence_at other d) ≤ time → end_of t (occurrence_at plan d) ≤ moment)
    → ((i : ℕ) → IsLastAdder t plan p moment i → end_of t (occurrence_at other i) ≤ time) → HoldsThen t other time p
carries_over t plan other p moment time s holds early in_time =
    let size : length other ≡ length plan = s.schedule.size in
    elim (last_adder t plan p moment) [
      | inl never ↦ holds_still t other p time (initial t plan p moment holds never)
          (λ d lt has le.
          let ld : d < length plan = omega (arith, lt, size) in
          let dele = deletes_first t plan other d p s.schedule has in
          let long : (occurrence_at plan d).start < end_of t (occurrence_at plan d) = lasts t plan d s.bounds s.valid.of_task ld in
          let since = added_since t plan p moment d holds ld dele (omega (arith, long)) (early d ld dele le) in
          never since.0 since.1)
      | inr l ↦
          let i = l.0 in
          let long : (occurrence_at other i).start < end_of t (occurrence_at other i) = lasts_too t plan other i s l.1.among.within in
          let li : i < length plan = l.1.among.within in
          holds_since t other p time i
          (record { within = omega (arith, li, size); adds = adds_too t plan other i p s.schedule l.1.among.adds; ended = in_time i l.1 })
          (omega (arith, long))
          (λ d lt has le.
          let ld : d < length plan = omega (arith, lt, size) in
          let dele = deletes_first t plan other d p s.schedule has in
          deleted_before t plan other p moment i d s holds l.1 ld dele (early d ld dele le))
    ]

-- a precondition holds while the occurrence runs
met_at : (t : TaskShape) (plan other : List Occ) (j p : ℕ) → Scheduled t plan other → j < length plan → Contains (action_of t (occurrence_at plan j)).pre p
    → HoldsFrom t other (occurrence_at other j).start (end_of t (occurrence_at other j)) p
met_at t plan other j p s lj has time low high =
    let o = occurrence_at plan j in
    let long : o.start < end_of t o = lasts t plan j s.bounds s.valid.of_task lj in
    let met : IsMet t plan o = s.valid.met j none lj in
    let holds : HoldsThen t plan o.start p = All-contains (HoldsFrom t plan o.start (end_of t o)) (action_of t o).pre p met has o.start (omega arith) long in
    carries_over t plan other p o.start time s holds
    (λ d ld dele le.
    elim (in_turn t plan other j d s lj ld (λ e. let z : end_of t (occurrence_at other j) ≤ time = subst (λ x. end_of t (occurrence_at other x) ≤ time) e le in omega (arith, z, high)) (inr (inl (p, dele, has)))) [
      | inl after ↦ let longer : (occurrence_at other d).start < end_of t (occurrence_at other d) = lasts_too t plan other d s ld in absurd (omega (arith, longer, after.1, le, high))
      | inr before ↦ before.0
    ])
    (λ i last. let ended : end_of t (occurrence_at other i) ≤ (occurrence_at other j).start = s.keeps i j (record { first = last.among.within; second = lj; ended = last.among.ended; cause = inr (p, has, last) }) in omega (arith, ended, low))

pub end_by_makespan : (t : TaskShape) (plan : List Occ) (k : ℕ) → k < length plan → end_of t (occurrence_at plan k) ≤ makespan t plan
end_by_makespan t [] k lt = absurd (omega (arith, lt))
end_by_makespan t (o ∷ os) zero lt = omega arith
end_by_makespan t (o ∷ os) (suc k) lt = let rest : end_of t (occurrence_at os k) ≤ makespan t os = end_by_makespan t os k (omega (arith, lt)) in omega (arith, rest)

goal_at : (t : TaskShape) (plan other : List Occ) (p : ℕ) → Scheduled t plan other → HoldsThen t plan (makespan t plan) p → HoldsThen t other (makespan t other) p
goal_at t plan other p s holds =
    let size : length other ≡ length plan = s.schedule.size in
    carries_over t plan other p (makespan t plan) (makespan t other) s holds
    (λ d ld dele le. end_by_makespan t plan d ld)
    (λ i last. let li : i < length plan = last.among.within in end_by_makespan t other i (omega (arith, li, size)))

all_of : (P : ℕ → Type 0) (xs : List ℕ) → ((p : ℕ) → Contains xs p → P p) → All P xs
all_of P xs h k d lt = h (get_or xs k d) (Contains-get_or xs k d lt)

each : (P : Occ → Type 0) (plan : List Occ) → ((k : ℕ) → k < length plan → P (occurrence_at plan k)) → All P plan
each P plan h k d lt = subst P (sym (read_at plan k d lt)) (h k lt)

valid_schedule : (t : TaskShape) (plan other : List Occ) → Scheduled t plan other → IsValid t other
valid_schedule t plan other s =
    let size : length other ≡ length plan = s.schedule.size in
    record {
      of_task = each (IsOccurrence t) other (λ k lt. subst (λ x. x < length t.actions) (sym (s.schedule.actions k)) (s.valid.of_task k none (omega (arith, lt, size))));
      apart = (λ i j lt within clash.
          let interferes : Interferes (action_of t (occurrence_at plan i)) (action_of t (occurrence_at plan j)) =
          subst (λ a. Interferes (action_of t (occurrence_at plan i)) a) (same_action t plan other j s.schedule)
          (subst (λ a. Interferes a (action_of t (occurrence_at other j))) (same_action t plan other i s.schedule) clash.1) in
          let first : (occurrence_at other i).start < end_of t (occurrence_at other j) = clash.0.first in
          let second : (occurrence_at other j).start < end_of t (occurrence_at other i) = clash.0.second in
          elim (in_turn t plan other i j s (omega (arith, lt, within, size)) (omega (arith, within, size)) (λ e. omega (arith, e, lt)) interferes) [
            | inl h ↦ omega (arith, h.1, second)
            | inr h ↦ omega (arith, h.1, first)
          ]);
      met = each (IsMet t other) other (λ k lt.
          all_of (HoldsFrom t other (occurrence_at other k).start (end_of t (occurrence_at other k))) (action_of t (occurrence_at other k)).pre
          (λ p has. met_at t plan other k p s (omega (arith, lt, size)) (subst (λ (a : Action). Contains a.pre p) (same_action t plan other k s.schedule) has)));
      goal = all_of (HoldsThen t other (makespan t other)) t.goal (λ p has. goal_at t plan other p s (All-contains (HoldsThen t plan (makespan t plan)) t.goal p s.valid.goal has));
    }

-- every schedule of a valid plan that keeps its needs is valid
pub schedules_are_valid : SchedulesAreValid
schedules_are_valid t plan other b valid schedule keeps = valid_schedule t plan other (record { bounds = b; valid = valid; schedule = schedule; keeps = keeps })

-- what is answered at the earliest is valid
pub earliest_is_valid : {E : Type 0} (t : TaskShape) (plan : List Occ) (r : Result Tight E) → InBounds t → IsValid t plan → IfOk r (λ x. IsEarliest t plan x.plan) → IfOk r (λ x. IsValid t x.plan)
earliest_is_valid t plan (Ok x) bounds valid h = schedules_are_valid t plan x.plan bounds valid h.schedule h.keeps
earliest_is_valid t plan (Err e) bounds valid h = tt
