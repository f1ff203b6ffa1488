use Rattle.std.proofs.Common.{◌≡◌, ◌≢◌, ℕ, zero, suc, replicate, ◌+◌, ◌<◌, ◌≤◌, ◌⊎◌, inl, inr, Bool, true, false, List, length, get_or, Option, None, Some, refl, sym, ap, ◌∙◌, subst, arith, Contains}
use Rattle.std.specs.Prelude.{slice_set}
use Rattle.std.proofs.lemmas.List.{get_or-set_other, get_or-set_same, length-replicate, length-set}
use Rattle.cpt_task.specs.declared.task.Action.{Action}
use Rattle.cpt_task.specs.declared.plan.Occ.{Occ}
use Rattle.cpt_task.specs.Shape.{TaskShape, InBounds}
use Rattle.cpt_task.specs.Timeline.{action_of, end_of, occurrence_at, IsPlan}
use Rattle.cpt_tighten.specs.declared.agenda.Event.{Event}
use Rattle.cpt_tighten.specs.declared.moments.Finish.{Finish}
use Rattle.cpt_tighten.specs.declared.records.Records.{Records}
use Rattle.cpt_tighten.specs.Agenda.{event, HasPassed, IsAgenda}
use Rattle.cpt_tighten.specs.Best.{entry, finish_of, IsBest, IsNoted}
use Rattle.cpt_tighten.specs.Links.{start_of, waiting, AreRecorded, IsLinked, IsTightened, IsUnderway}
use Rattle.cpt_tighten.specs.Needs.{IsNeeded}
use Rattle.cpt_tighten.specs.Records.{best_of, IsBlank, IsTaken}
use Rattle.cpt_tighten.specs.Schedules.{IsSchedule}
use Rattle.cpt_tighten.proofs.Bests.{best_kept, best_same, noted_best}
use Rattle.cpt_tighten.proofs.Latest.{compared}
use Rattle.cpt_tighten.proofs.Places.{lasts, none, same_action}
use Rattle.cpt_tighten.proofs.Timing.{ended_before, passed_all, passed_more, passed_now, passed_still, started_before, Starts}
use Rattle.cpt_tighten.proofs.Waiting.{needed_best}

same_or_not : (a b : ℕ) → (a ≡ b) ⊎ (a ≢ b)
same_or_not a b = elim (compared a b) [ inl lt ↦ inr (λ e. omega (arith, e, lt)) | inr le ↦ elim (compared b a) [ inl lt ↦ inr (λ e. omega (arith, e, lt)) | inr too ↦ inl (omega (arith, le, too)) ] ]

-- a schedule in which one place now waits for an end
pub record Waits (tight : List Occ) (links : List (Option Finish)) (j : ℕ) (best : Option Finish) (tight' : List Occ) (links' : List (Option Finish)) : Type 0 where
  pub within : j < length tight
  pub linked : j < length links
  pub schedule : tight' ≡ slice_set tight j (waiting (occurrence_at tight j) best)
  pub chained : links' ≡ slice_set links j best

there : (tight tight' : List Occ) (links links' : List (Option Finish)) (j : ℕ) (best : Option Finish) → Waits tight links j best tight' links' → occurrence_at tight' j ≡ waiting (occurrence_at tight j) best
there tight tight' links links' j best w = ap (λ xs. occurrence_at xs j) w.schedule ∙ get_or-set_same tight j (waiting (occurrence_at tight j) best) none w.within

elsewhere : (tight tight' : List Occ) (links links' : List (Option Finish)) (j i : ℕ) (best : Option Finish) → Waits tight links j best tight' links' → i ≢ j → occurrence_at tight' i ≡ occurrence_at tight i
elsewhere tight tight' links links' j i best w ne = ap (λ xs. occurrence_at xs i) w.schedule ∙ get_or-set_other tight j i (waiting (occurrence_at tight j) best) none ne

link_there : (tight tight' : List Occ) (links links' : List (Option Finish)) (j : ℕ) (best : Option Finish) → Waits tight links j best tight' links' → entry links' j ≡ best
link_there tight tight' links links' j best w = ap (λ xs. entry xs j) w.chained ∙ get_or-set_same links j best None w.linked

link_elsewhere : (tight tight' : List Occ) (links links' : List (Option Finish)) (j i : ℕ) (best : Option Finish) → Waits tight links j best tight' links' → i ≢ j → entry links' i ≡ entry links i
link_elsewhere tight tight' links links' j i best w ne = ap (λ xs. entry xs i) w.chained ∙ get_or-set_other links j i best None ne

-- what is known when a place starts
pub record Starting (t : TaskShape) (plan : List Occ) (es : List Event) (k : ℕ) (tight : List Occ) (links : List (Option Finish)) (r : Records) (j : ℕ) (tight' : List Occ) (links' : List (Option Finish)) : Type 0 where
  pub bounds : InBounds t
  pub of_task : IsPlan t plan
  pub underway : IsUnderway t plan es k tight links r
  pub starts : Starts t plan es k j
  pub within : j < length plan
  pub waits : Waits tight links j (best_of t tight r (action_of t (occurrence_at plan j))) tight' links'

-- who has ended is not the one that starts
ended_other : (t : TaskShape) (plan : List Occ) (es : List Event) (k : ℕ) (tight tight' : List Occ) (links links' : List (Option Finish)) (r : Records) (j i : ℕ) → Starting t plan es k tight links r j tight' links'
    → end_of t (occurrence_at plan i) ≤ (occurrence_at plan j).start → i ≢ j
ended_other t plan es k tight tight' links links' r j i s le same =
    let long : (occurrence_at plan j).start < end_of t (occurrence_at plan j) = lasts t plan j s.bounds s.of_task s.within in
    let z : end_of t (occurrence_at plan j) ≤ (occurrence_at plan j).start = subst (λ x. end_of t (occurrence_at plan x) ≤ (occurrence_at plan j).start) same le in
    omega (arith, long, z)

-- an end in the schedule is no later than in the plan
end_early : (t : TaskShape) (plan tight : List Occ) (i : ℕ) → IsSchedule plan tight → (occurrence_at tight i).start ≤ (occurrence_at plan i).start → end_of t (occurrence_at tight i) ≤ end_of t (occurrence_at plan i)
end_early t plan tight i s le =
    let dur : (action_of t (occurrence_at tight i)).dur ≡ (action_of t (occurrence_at plan i)).dur = ap (λ (a : Action). a.dur) (same_action t plan tight i s) in
    omega (arith, dur, le)

start_early : (t : TaskShape) (plan tight : List Occ) (j : ℕ) (best : Option Finish) → IsSchedule plan tight → ((i : ℕ) → (occurrence_at tight i).start ≤ (occurrence_at plan i).start)
    → IsBest t tight (λ i. IsNeeded t plan i j) best → start_of best ≤ (occurrence_at plan j).start
start_early t plan tight j None s early h = omega arith
start_early t plan tight j (Some f) s early h =
    let ends : f.end ≡ end_of t (occurrence_at tight f.place) = h.1 in
    let low : end_of t (occurrence_at tight f.place) ≤ end_of t (occurrence_at plan f.place) = end_early t plan tight f.place s (early f.place) in
    let needed : end_of t (occurrence_at plan f.place) ≤ (occurrence_at plan j).start = h.0.among.ended in
    omega (arith, ends, low, needed)

-- the link of a place that had started, or starts now
started_link : (t : TaskShape) (plan : List Occ) (es : List Event) (k : ℕ) (tight tight' : List Occ) (links links' : List (Option Finish)) (r : Records) (j i : ℕ) → Starting t plan es k tight links r j tight' links'
    → (i ≡ j) ⊎ (i ≢ j) → HasPassed t plan es k true i ⊎ (i ≡ j) → IsLinked t plan tight' i (entry links' i)
started_link t plan es k tight tight' links links' r j i s (inl same) passed =
    let best = best_of t tight r (action_of t (occurrence_at plan j)) in
    let h : IsBest t tight (λ n. IsNeeded t plan n j) best = needed_best t plan tight es k j r s.starts s.within s.underway.records in
    let kept : IsBest t tight' (λ n. IsNeeded t plan n j) best = best_kept t tight tight' (λ n. IsNeeded t plan n j) best
    (λ n needed. elsewhere tight tight' links links' j n best s.waits (ended_other t plan es k tight tight' links links' r j n s needed.ended)) h in
    subst (λ x. IsLinked t plan tight' x (entry links' x)) (sym same)
    (subst (IsLinked t plan tight' j) (sym (link_there tight tight' links links' j best s.waits))
    (record { last = kept; start = ap (λ (o : Occ). o.start) (there tight tight' links links' j best s.waits) }))
started_link t plan es k tight tight' links links' r j i s (inr other) (inr same) = absurd (other same)
started_link t plan es k tight tight' links links' r j i s (inr other) (inl passed) =
    let best = best_of t tight r (action_of t (occurrence_at plan j)) in
    let old : IsLinked t plan tight i (entry links i) = s.underway.linked i passed in
    let first : (occurrence_at plan i).start ≤ (occurrence_at plan j).start = started_before t plan es k j i s.starts passed in
    subst (IsLinked t plan tight' i) (sym (link_elsewhere tight tight' links links' j i best s.waits other))
    (record {
      last = best_kept t tight tight' (λ n. IsNeeded t plan n i) (entry links i)
          (λ n needed. elsewhere tight tight' links links' j n best s.waits
          (ended_other t plan es k tight tight' links links' r j n s (let e : end_of t (occurrence_at plan n) ≤ (occurrence_at plan i).start = needed.ended in omega (arith, e, first)))) old.last;
      start = ap (λ (o : Occ). o.start) (elsewhere tight tight' links links' j i best s.waits other) ∙ old.start;
    })

place_same : (t : TaskShape) (plan : List Occ) (i j : ℕ) (a b : Bool) → event t plan a i ≡ event t plan b j → j ≡ i
place_same t plan i j a b e = sym (ap (λ (x : Event). x.place) e)

kind_same : (t : TaskShape) (plan : List Occ) (i j : ℕ) (a b : Bool) → event t plan a i ≡ event t plan b j → a ≡ b
kind_same t plan i j a b e = ap (λ (x : Event). x.starts) e

-- at a start, no more has ended
no_more_ended : (t : TaskShape) (plan : List Occ) (es : List Event) (k j i : ℕ) → Starts t plan es k j → HasPassed t plan es (k + 1) false i → HasPassed t plan es k false i
no_more_ended t plan es k j i s has =
    elim (passed_more t plan es k false i (event t plan true j) s.within has) [
      | inl before ↦ before
      | inr now ↦ absurd (let z : true ≡ false = kind_same t plan j i true false (sym s.here ∙ now) in let w : ⊥ = cc z in w)
    ]

-- the records after a start say the same of the new schedule
records_start : (t : TaskShape) (plan : List Occ) (es : List Event) (k : ℕ) (tight tight' : List Occ) (links links' : List (Option Finish)) (r : Records) (j : ℕ) → Starting t plan es k tight links r j tight' links'
    → AreRecorded t plan tight' es (k + 1) r
records_start t plan es k tight tight' links links' r j s = record {
  needs = λ p. entry_start (λ (x : Action). x.pre) p (entry r.needs.items p) (s.underway.records.needs p);
  adds = λ p. entry_start (λ (x : Action). x.add) p (entry r.adds.items p) (s.underway.records.adds p);
  deletes = λ p. entry_start (λ (x : Action). x.dele) p (entry r.deletes.items p) (s.underway.records.deletes p);
  adders = λ p. best_same t plan (λ i. HasPassed t plan es k false i × Contains (action_of t (occurrence_at plan i)).add p) (λ i. HasPassed t plan es (k + 1) false i × Contains (action_of t (occurrence_at plan i)).add p) (entry r.adders.items p)
      (λ i h. (passed_still t plan es k false i s.starts.within h.0, h.1)) (λ i h. (no_more_ended t plan es k j i s.starts h.0, h.1)) (s.underway.records.adders p);
}
  where
    entry_start : (list : Action → List ℕ) (p : ℕ) (o : Option Finish) → IsBest t tight (λ i. HasPassed t plan es k false i × Contains (list (action_of t (occurrence_at plan i))) p) o
        → IsBest t tight' (λ i. HasPassed t plan es (k + 1) false i × Contains (list (action_of t (occurrence_at plan i))) p) o
    entry_start list p o h =
        best_same t tight' (λ i. HasPassed t plan es k false i × Contains (list (action_of t (occurrence_at plan i))) p) (λ i. HasPassed t plan es (k + 1) false i × Contains (list (action_of t (occurrence_at plan i))) p) o
        (λ i h. (passed_still t plan es k false i s.starts.within h.0, h.1)) (λ i h. (no_more_ended t plan es k j i s.starts h.0, h.1))
        (best_kept t tight tight' (λ i. HasPassed t plan es k false i × Contains (list (action_of t (occurrence_at plan i))) p) o
        (λ i h. elsewhere tight tight' links links' j i (best_of t tight r (action_of t (occurrence_at plan j))) s.waits
        (ended_other t plan es k tight tight' links links' r j i s (ended_before t plan es k j i s.starts h.0))) h)

-- one more start passes
pub start_passes : (t : TaskShape) (plan : List Occ) (es : List Event) (k : ℕ) (tight tight' : List Occ) (links links' : List (Option Finish)) (r : Records) (j : ℕ) → Starting t plan es k tight links r j tight' links'
    → IsUnderway t plan es (k + 1) tight' links' r
start_passes t plan es k tight tight' links links' r j s =
    let best = best_of t tight r (action_of t (occurrence_at plan j)) in
    let u = s.underway in
    record {
      agenda = u.agenda;
      schedule = record {
        size = ap (λ (xs : List Occ). length xs) s.waits.schedule ∙ length-set tight j (waiting (occurrence_at tight j) best) ∙ u.schedule.size;
        actions = (λ i. elim (same_or_not i j) [
          | inl same ↦ ap (λ (o : Occ). o.act) (subst (λ x. occurrence_at tight' x ≡ waiting (occurrence_at tight x) best) (sym same) (there tight tight' links links' j best s.waits)) ∙ u.schedule.actions i
          | inr other ↦ ap (λ (o : Occ). o.act) (elsewhere tight tight' links links' j i best s.waits other) ∙ u.schedule.actions i
        ]);
      };
      early = (λ i. elim (same_or_not i j) [
        | inl same ↦
            let at : (occurrence_at tight' j).start ≡ start_of best = ap (λ (o : Occ). o.start) (there tight tight' links links' j best s.waits) in
            let low : start_of best ≤ (occurrence_at plan j).start = start_early t plan tight j best u.schedule u.early (needed_best t plan tight es k j r s.starts s.within u.records) in
            let here : (occurrence_at tight' j).start ≤ (occurrence_at plan j).start = omega (arith, at, low) in
            subst (λ x. (occurrence_at tight' x).start ≤ (occurrence_at plan x).start) (sym same) here
        | inr other ↦
            let at : (occurrence_at tight' i).start ≡ (occurrence_at tight i).start = ap (λ (o : Occ). o.start) (elsewhere tight tight' links links' j i best s.waits other) in
            let low : (occurrence_at tight i).start ≤ (occurrence_at plan i).start = u.early i in
            omega (arith, at, low)
      ]);
      count = ap (λ (xs : List (Option Finish)). length xs) s.waits.chained ∙ length-set links j best ∙ u.count;
      sized = u.sized;
      linked = (λ i has. started_link t plan es k tight tight' links links' r j i s (same_or_not i j)
          (elim (passed_more t plan es k true i (event t plan true j) s.starts.within has) [ inl before ↦ inl before | inr now ↦ inr (place_same t plan j i true true (sym s.starts.here ∙ now)) ]));
      records = records_start t plan es k tight tight' links links' r j s;
    }

-- what is known when a place ends
pub record Ending (t : TaskShape) (plan : List Occ) (es : List Event) (k : ℕ) (tight : List Occ) (links : List (Option Finish)) (r : Records) (j : ℕ) (r' : Records) : Type 0 where
  pub underway : IsUnderway t plan es k tight links r
  pub within : k < length es
  pub here : get_or es k (event t plan false j) ≡ event t plan false j
  pub taken : IsTaken r (action_of t (occurrence_at plan j)) (finish_of t tight j) (finish_of t plan j) r'

-- at an end, no more has started
no_more_started : (t : TaskShape) (plan : List Occ) (es : List Event) (k j i : ℕ) → k < length es → get_or es k (event t plan false j) ≡ event t plan false j → HasPassed t plan es (k + 1) true i → HasPassed t plan es k true i
no_more_started t plan es k j i within here has =
    elim (passed_more t plan es k true i (event t plan false j) within has) [
      | inl before ↦ before
      | inr now ↦ absurd (let z : false ≡ true = kind_same t plan j i false true (sym here ∙ now) in let w : ⊥ = cc z in w)
    ]

-- at an end, whoever had ended before, and that one
one_more_ended : (t : TaskShape) (plan : List Occ) (es : List Event) (k j i : ℕ) → k < length es → get_or es k (event t plan false j) ≡ event t plan false j → HasPassed t plan es (k + 1) false i → HasPassed t plan es k false i ⊎ (i ≡ j)
one_more_ended t plan es k j i within here has =
    elim (passed_more t plan es k false i (event t plan false j) within has) [
      | inl before ↦ inl before
      | inr now ↦ inr (place_same t plan j i false false (sym here ∙ now))
    ]

now_ended : (t : TaskShape) (plan : List Occ) (es : List Event) (k j i : ℕ) → k < length es → get_or es k (event t plan false j) ≡ event t plan false j → i ≡ j → HasPassed t plan es (k + 1) false i
now_ended t plan es k j i within here same = passed_now t plan es k false i (event t plan false j) within (here ∙ ap (event t plan false) (sym same))

-- the entry of an atom, by one list of the actions, after an end
entry_end : (t : TaskShape) (plan at : List Occ) (es : List Event) (k j : ℕ) (list : Action → List ℕ) (old new : List (Option Finish)) → k < length es → get_or es k (event t plan false j) ≡ event t plan false j
    → IsNoted old (list (action_of t (occurrence_at plan j))) (finish_of t at j) new
    → ((p : ℕ) → IsBest t at (λ i. HasPassed t plan es k false i × Contains (list (action_of t (occurrence_at plan i))) p) (entry old p))
    → (p : ℕ) → IsBest t at (λ i. HasPassed t plan es (k + 1) false i × Contains (list (action_of t (occurrence_at plan i))) p) (entry new p)
entry_end t plan at es k j list old new within here noted entries p =
    let Q : ℕ → ℕ → Type 0 = λ q i. HasPassed t plan es k false i × Contains (list (action_of t (occurrence_at plan i))) q in
    best_same t at (λ i. Q p i ⊎ ((i ≡ j) × Contains (list (action_of t (occurrence_at plan j))) p)) (λ i. HasPassed t plan es (k + 1) false i × Contains (list (action_of t (occurrence_at plan i))) p) (entry new p)
    (λ i h. elim h [
      | inl q ↦ (passed_still t plan es k false i within q.0, q.1)
      | inr e ↦ (now_ended t plan es k j i within here e.0, subst (λ x. Contains (list (action_of t (occurrence_at plan x))) p) (sym e.0) e.1)
    ])
    (λ i h. elim (one_more_ended t plan es k j i within here h.0) [
      | inl before ↦ inl (before, h.1)
      | inr same ↦ inr (same, subst (λ x. Contains (list (action_of t (occurrence_at plan x))) p) same h.1)
    ])
    (noted_best t at Q old new (list (action_of t (occurrence_at plan j))) j noted entries p)

-- one more end passes
pub end_passes : (t : TaskShape) (plan : List Occ) (es : List Event) (k : ℕ) (tight : List Occ) (links : List (Option Finish)) (r : Records) (j : ℕ) (r' : Records) → Ending t plan es k tight links r j r'
    → IsUnderway t plan es (k + 1) tight links r'
end_passes t plan es k tight links r j r' s =
    let u = s.underway in
    record {
      agenda = u.agenda;
      schedule = u.schedule;
      early = u.early;
      count = u.count;
      sized = record { needs = s.taken.needs.size ∙ u.sized.needs; adds = s.taken.adds.size ∙ u.sized.adds; deletes = s.taken.deletes.size ∙ u.sized.deletes; adders = s.taken.adders.size ∙ u.sized.adders };
      linked = (λ i has. u.linked i (no_more_started t plan es k j i s.within s.here has));
      records = record {
        needs = entry_end t plan tight es k j (λ (x : Action). x.pre) r.needs.items r'.needs.items s.within s.here s.taken.needs u.records.needs;
        adds = entry_end t plan tight es k j (λ (x : Action). x.add) r.adds.items r'.adds.items s.within s.here s.taken.adds u.records.adds;
        deletes = entry_end t plan tight es k j (λ (x : Action). x.dele) r.deletes.items r'.deletes.items s.within s.here s.taken.deletes u.records.deletes;
        adders = entry_end t plan plan es k j (λ (x : Action). x.add) r.adders.items r'.adders.items s.within s.here s.taken.adders u.records.adders;
      };
    }

-- when all events have passed, each place is linked
pub all_passed : (t : TaskShape) (plan : List Occ) (es : List Event) (k : ℕ) (tight : List Occ) (links : List (Option Finish)) (r : Records) → length es ≤ k → IsUnderway t plan es k tight links r → IsTightened t plan tight links
all_passed t plan es k tight links r le u = record {
  schedule = u.schedule;
  early = u.early;
  count = u.count;
  linked = λ j lt. u.linked j (passed_all t plan es k true j u.agenda le lt);
}

nothing : (t : TaskShape) (plan : List Occ) (es : List Event) (starts : Bool) (i : ℕ) → HasPassed t plan es 0 starts i → ⊥
nothing t plan es starts i has = let lt : has.0 < 0 = has.1 in omega (arith, lt)

blank_entry : (n p : ℕ) → entry (replicate n None) p ≡ None
blank_entry zero p = refl
blank_entry (suc n) zero = refl
blank_entry (suc n) (suc p) = blank_entry n p

nobody : (t : TaskShape) (plan : List Occ) (es : List Event) (at : List Occ) (list : Action → List ℕ) (table : List (Option Finish)) (p n : ℕ) → table ≡ replicate n None
    → IsBest t at (λ i. HasPassed t plan es 0 false i × Contains (list (action_of t (occurrence_at plan i))) p) (entry table p)
nobody t plan es at list table p n blank =
    subst (IsBest t at (λ i. HasPassed t plan es 0 false i × Contains (list (action_of t (occurrence_at plan i))) p)) (sym (ap (λ xs. entry xs p) blank ∙ blank_entry n p))
    (λ i h. nothing t plan es false i h.0)

-- before any event has passed
pub none_passed : (t : TaskShape) (plan : List Occ) (es : List Event) (links : List (Option Finish)) (r : Records) → IsAgenda t plan es → links ≡ replicate (length plan) None → IsBlank (length t.atoms) r → IsUnderway t plan es 0 plan links r
none_passed t plan es links r a none blank = record {
  agenda = a;
  schedule = record { size = refl; actions = λ k. refl };
  early = λ j. omega arith;
  count = ap (λ (xs : List (Option Finish)). length xs) none ∙ length-replicate (length plan) None;
  sized = record {
    needs = ap (λ (xs : List (Option Finish)). length xs) blank.needs ∙ length-replicate (length t.atoms) None;
    adds = ap (λ (xs : List (Option Finish)). length xs) blank.adds ∙ length-replicate (length t.atoms) None;
    deletes = ap (λ (xs : List (Option Finish)). length xs) blank.deletes ∙ length-replicate (length t.atoms) None;
    adders = ap (λ (xs : List (Option Finish)). length xs) blank.adders ∙ length-replicate (length t.atoms) None;
  };
  linked = λ j has. absurd (nothing t plan es true j has);
  records = record {
    needs = λ p. nobody t plan es plan (λ (x : Action). x.pre) r.needs.items p (length t.atoms) blank.needs;
    adds = λ p. nobody t plan es plan (λ (x : Action). x.add) r.adds.items p (length t.atoms) blank.adds;
    deletes = λ p. nobody t plan es plan (λ (x : Action). x.dele) r.deletes.items p (length t.atoms) blank.deletes;
    adders = λ p. nobody t plan es plan (λ (x : Action). x.add) r.adders.items p (length t.atoms) blank.adders;
  };
}
