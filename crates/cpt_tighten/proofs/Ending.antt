use Rattle.std.proofs.Common.{◌≡◌, ℕ, zero, suc, ◌<◌, ◌≤◌, ◌⊎◌, inl, inr, List, [], ◌∷◌, ◌++◌, reverse, length, Option, None, Some, refl, sym, ap, ◌∙◌, subst, arith}
use Rattle.std.proofs.lemmas.List.{reverse-append}
use Rattle.cpt_task.specs.declared.task.Action.{Action}
use Rattle.cpt_task.specs.Judgeable.{IsJudgeable}
use Rattle.cpt_task.specs.declared.plan.Occ.{Occ}
use Rattle.cpt_task.specs.Shape.{TaskShape, InBounds}
use Rattle.cpt_task.specs.Timeline.{action_of, end_of, makespan, occurrence_at, IsPlan}
use Rattle.cpt_tighten.specs.declared.moments.Finish.{Finish}
use Rattle.cpt_tighten.specs.Best.{entry, IsBest}
use Rattle.cpt_tighten.specs.Chains.{IsChain, IsLink, LeadsTo}
use Rattle.cpt_tighten.specs.Links.{Descends, IsLinked, IsTightened, HasTrail, IsTrail, LinksBack, LinksTo}
use Rattle.cpt_tighten.specs.Needs.{IsLatest, IsNeeded}
use Rattle.cpt_tighten.specs.Schedules.{IsEarliest, IsSchedule, KeepsNeeds}
use Rattle.cpt_tighten.proofs.Latest.{at_most, compared}
use Rattle.cpt_tighten.proofs.Places.{lasts, same_action}
use Rattle.cpt_tighten.proofs.Summing.{latest_is_makespan}

-- the link of a place, with what is waited for
link_is : (t : TaskShape) (plan tight : List Occ) (links : List (Option Finish)) (j : ℕ) (o : Option Finish) → IsTightened t plan tight links → j < length plan → entry links j ≡ o → IsLinked t plan tight j o
link_is t plan tight links j o h lt e = subst (IsLinked t plan tight j) e (h.linked j lt)

waits : (t : TaskShape) (plan tight : List Occ) (i j : ℕ) (o : Option Finish) → IsLinked t plan tight j o → IsNeeded t plan i j → end_of t (occurrence_at tight i) ≤ (occurrence_at tight j).start
waits t plan tight i j None h n = absurd (h.last i n)
waits t plan tight i j (Some f) h n =
    let low : end_of t (occurrence_at tight i) ≤ end_of t (occurrence_at tight f.place) = at_most (end_of t (occurrence_at tight f.place)) (end_of t (occurrence_at tight i)) f.place i (h.last.0.last i n) in
    let ends : f.end ≡ end_of t (occurrence_at tight f.place) = h.last.1 in
    let start : (occurrence_at tight j).start ≡ f.end = h.start in
    omega (arith, low, ends, start)

keeps_needs : (t : TaskShape) (plan tight : List Occ) (links : List (Option Finish)) → IsTightened t plan tight links → KeepsNeeds t plan tight
keeps_needs t plan tight links h i j n = waits t plan tight i j (entry links j) (h.linked j n.second) n

same_duration : (t : TaskShape) (plan tight other : List Occ) (k : ℕ) → IsSchedule plan tight → IsSchedule plan other → (action_of t (occurrence_at tight k)).dur ≡ (action_of t (occurrence_at other k)).dur
same_duration t plan tight other k s u = ap (λ (a : Action). a.dur) (same_action t plan tight k s ∙ sym (same_action t plan other k u))

-- the start of a place is the least where those of earlier places are
least_by_link : (t : TaskShape) (plan tight other : List Occ) (links : List (Option Finish)) → InBounds t → IsPlan t plan → IsTightened t plan tight links → IsSchedule plan other → KeepsNeeds t plan other
    → (n j : ℕ) (o : Option Finish) → ((i : ℕ) → i < length plan → (occurrence_at plan i).start < n → (occurrence_at tight i).start ≤ (occurrence_at other i).start)
    → (occurrence_at plan j).start < suc n → IsLinked t plan tight j o → (occurrence_at tight j).start ≤ (occurrence_at other j).start
least_by_link t plan tight other links b p h s keeps n j None earlier lt l = let start : (occurrence_at tight j).start ≡ 0 = l.start in omega (arith, start)
least_by_link t plan tight other links b p h s keeps n j (Some f) earlier lt l =
    let needed : IsNeeded t plan f.place j = l.last.0.among in
    let ends : f.end ≡ end_of t (occurrence_at tight f.place) = l.last.1 in
    let start : (occurrence_at tight j).start ≡ f.end = l.start in
    let long : (occurrence_at plan f.place).start < end_of t (occurrence_at plan f.place) = lasts t plan f.place b p needed.first in
    let before : end_of t (occurrence_at plan f.place) ≤ (occurrence_at plan j).start = needed.ended in
    let low : (occurrence_at tight f.place).start ≤ (occurrence_at other f.place).start = earlier f.place needed.first (omega (arith, long, before, lt)) in
    let dur : (action_of t (occurrence_at tight f.place)).dur ≡ (action_of t (occurrence_at other f.place)).dur = same_duration t plan tight other f.place h.schedule s in
    let kept : end_of t (occurrence_at other f.place) ≤ (occurrence_at other j).start = keeps f.place j needed in
    omega (arith, ends, start, low, dur, kept)

-- each start is the least: by induction on the start in the plan, of which n is more
least_below : (t : TaskShape) (plan tight other : List Occ) (links : List (Option Finish)) → InBounds t → IsPlan t plan → IsTightened t plan tight links → IsSchedule plan other → KeepsNeeds t plan other
    → (n j : ℕ) → j < length plan → (occurrence_at plan j).start < n → (occurrence_at tight j).start ≤ (occurrence_at other j).start
least_below t plan tight other links b p h s keeps zero j lj lt = absurd (omega (arith, lt))
least_below t plan tight other links b p h s keeps (suc n) j lj lt =
    least_by_link t plan tight other links b p h s keeps n j (entry links j) (λ i li less. least_below t plan tight other links b p h s keeps n i li less) lt (h.linked j lj)

past_end : (xs : List Occ) (k : ℕ) → length xs ≤ k → (occurrence_at xs k).start ≡ 0
past_end [] k le = refl
past_end (x ∷ xs) zero le = absurd (omega (arith, le))
past_end (x ∷ xs) (suc k) le = past_end xs k (omega (arith, le))

-- a schedule in which each place starts as soon as it may is the earliest
pub earliest : (t : TaskShape) (plan tight : List Occ) (links : List (Option Finish)) → InBounds t → IsPlan t plan → IsTightened t plan tight links → IsEarliest t plan tight
earliest t plan tight links b p h = record {
  schedule = h.schedule;
  keeps = keeps_needs t plan tight links h;
  least = λ other s keeps k. elim (compared k (length plan)) [
    | inl lt ↦ least_below t plan tight other links b p h s keeps (suc (occurrence_at plan k).start) k lt (omega arith)
    | inr ge ↦
        let size : length tight ≡ length plan = h.schedule.size in
        let none : (occurrence_at tight k).start ≡ 0 = past_end tight k (omega (arith, size, ge)) in
        omega (arith, none)
  ];
}

linked_within : (links : List (Option Finish)) (j : ℕ) (f : Finish) → entry links j ≡ Some f → j < length links
linked_within [] j f e = absurd (let z : ⊥ = cc e in z)
linked_within (o ∷ os) zero f e = omega arith
linked_within (o ∷ os) (suc j) f e = let rest : j < length os = linked_within os j f e in omega (arith, rest)

-- links lead to places that start earlier
pub descends : (t : TaskShape) (plan tight : List Occ) (links : List (Option Finish)) → InBounds t → IsPlan t plan → IsTightened t plan tight links → Descends tight links
descends t plan tight links b p h = record {
  down = λ j f e.
      let count : length links ≡ length plan = h.count in
      let size : length tight ≡ length plan = h.schedule.size in
      let within : j < length links = linked_within links j f e in
      let l : IsLinked t plan tight j (Some f) = link_is t plan tight links j (Some f) h (omega (arith, within, count)) e in
      let needed : f.place < length plan = l.last.0.among.first in
      let long : (occurrence_at plan f.place).start < end_of t (occurrence_at plan f.place) = lasts t plan f.place b p needed in
      let dur : (action_of t (occurrence_at tight f.place)).dur ≡ (action_of t (occurrence_at plan f.place)).dur = ap (λ (a : Action). a.dur) (same_action t plan tight f.place h.schedule) in
      let ends : f.end ≡ end_of t (occurrence_at tight f.place) = l.last.1 in
      let start : (occurrence_at tight j).start ≡ f.end = l.start in
      (omega (arith, needed, size), omega (arith, long, dur, ends, start));
  first = λ j lt e.
      let size : length tight ≡ length plan = h.schedule.size in
      (link_is t plan tight links j None h (omega (arith, lt, size)) e).start;
}

no_later_tie : (e g i k : ℕ) → ((g < e) ⊎ ((g ≡ e) × (i ≤ k))) → g ≡ e → i ≤ k
no_later_tie e g i k h same = grind arith

-- a link is the least place that is needed and ends then
linked_back : (t : TaskShape) (plan tight : List Occ) (links : List (Option Finish)) (i j : ℕ) → IsTightened t plan tight links → LinksBack links j i → IsLink t plan tight i j
linked_back t plan tight links i j h b =
    let f = b.0 in
    let count : length links ≡ length plan = h.count in
    let within : j < length links = linked_within links j f b.1 in
    let l : IsLinked t plan tight j (Some f) = link_is t plan tight links j (Some f) h (omega (arith, within, count)) b.1 in
    let ends : f.end ≡ end_of t (occurrence_at tight f.place) = l.last.1 in
    let start : (occurrence_at tight j).start ≡ f.end = l.start in
    subst (λ x. IsLink t plan tight x j) b.2 (record {
      needed = l.last.0.among;
      meets = omega (arith, ends, start);
      least = λ k needed meets. no_later_tie (end_of t (occurrence_at tight f.place)) (end_of t (occurrence_at tight k)) f.place k (l.last.0.last k needed) (omega (arith, meets, ends, start));
    })

leads_to : (t : TaskShape) (plan tight : List Occ) (links : List (Option Finish)) (last i : ℕ) (is : List ℕ) → IsTightened t plan tight links → LinksTo links last i is → LeadsTo t plan tight last i is
leads_to t plan tight links last i [] h leads = leads
leads_to t plan tight links last i (j ∷ js) h leads = (linked_back t plan tight links i j h leads.0, leads_to t plan tight links last j js h leads.1)

chain_of : (t : TaskShape) (plan tight : List Occ) (last i : ℕ) (is chain : List ℕ) → chain ≡ i ∷ is → (occurrence_at tight i).start ≡ 0 → IsLatest t tight (λ k. k < length plan) last → LeadsTo t plan tight last i is → IsChain t plan tight chain
chain_of t plan tight last i is chain e start latest leads = subst (IsChain t plan tight) (sym e) (start, (last, latest, leads))

-- the links lead to the last place by its chain
pub chain_from_trail : (t : TaskShape) (plan tight : List Occ) (links : List (Option Finish)) (last : ℕ) (chain : List ℕ) → IsTightened t plan tight links → IsLatest t tight (λ k. k < length tight) last → IsTrail tight links last chain
    → IsChain t plan tight chain
chain_from_trail t plan tight links last chain h latest trail =
    chain_of t plan tight last trail.front trail.rest chain trail.is trail.start
    (subst (λ n. IsLatest t tight (λ k. k < n) last) h.schedule.size latest)
    (leads_to t plan tight links last trail.front trail.rest h trail.leads)

-- no place at all
pub nothing_last : (t : TaskShape) (plan tight : List Occ) → IsSchedule plan tight → ((k : ℕ) → k < length tight → ⊥) → plan ≡ []
nothing_last t [] tight s never = refl
nothing_last t (o ∷ os) tight s never = let size : length tight ≡ length (o ∷ os) = s.size in absurd (never 0 (omega (arith, size)))

pub no_makespan : (t : TaskShape) (tight : List Occ) → ((k : ℕ) → k < length tight → ⊥) → makespan t tight ≡ 0
no_makespan t [] never = refl
no_makespan t (o ∷ os) never = absurd (never 0 (omega arith))

pub is_plan : (t : TaskShape) (plan : List Occ) → IsJudgeable t plan → IsPlan t plan
is_plan t plan h k d lt = (h k d lt).0

-- one more place of the chain
pub trail_more : (links : List (Option Finish)) (last place i : ℕ) (chain more : List ℕ) → more ≡ chain ++ i ∷ [] → LinksBack links place i → HasTrail links last place chain → HasTrail links last i more
trail_more links last place i chain more e back h = record {
  rest = place ∷ h.rest;
  is = ap reverse e ∙ reverse-append chain (i ∷ []) ∙ ap (λ xs. i ∷ xs) h.is;
  leads = (back, h.leads);
}

-- the chain whole
pub trail_whole : (tight : List Occ) (links : List (Option Finish)) (last place : ℕ) (chain whole : List ℕ) → whole ≡ reverse chain → (occurrence_at tight place).start ≡ 0 → HasTrail links last place chain → IsTrail tight links last whole
trail_whole tight links last place chain whole e start h = record { front = place; rest = h.rest; is = e ∙ h.is; leads = h.leads; start = start }

-- the latest end is the makespan
pub ends_at_makespan : (t : TaskShape) (tight : List Occ) (f : Finish) → IsBest t tight (λ k. k < length tight) (Some f) → f.end ≡ makespan t tight
ends_at_makespan t tight f h = h.1 ∙ latest_is_makespan t tight (length tight) f.place refl h.0
