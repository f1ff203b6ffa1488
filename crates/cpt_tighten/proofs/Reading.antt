use Rattle.std.proofs.Common.{◌≡◌, ℕ, ◌+◌, ◌<◌, ◌≤◌, Bool, true, false, List, length, get_or, Option, None, Some, IfSome, sym, ap, ◌∙◌, subst, arith, All, Contains}
use Rattle.std.specs.Prelude.{slice_set}
use Rattle.std.proofs.lemmas.List.{get_or_default}
use Rattle.cpt_task.specs.declared.plan.Occ.{Occ}
use Rattle.cpt_task.specs.Judgeable.{IsJudgeable, IsJudgeableAt}
use Rattle.cpt_task.specs.Shape.{TaskShape, InBounds}
use Rattle.cpt_task.specs.Timeline.{action_of, occurrence_at}
use Rattle.cpt_tighten.specs.declared.agenda.Event.{Event}
use Rattle.cpt_tighten.specs.declared.moments.Finish.{Finish}
use Rattle.cpt_tighten.specs.declared.records.Records.{Records}
use Rattle.cpt_tighten.specs.Agenda.{event, HasPassed, IsAgenda, IsEvent}
use Rattle.cpt_tighten.specs.Best.{entry, finish_of, IsBest}
use Rattle.cpt_tighten.specs.Links.{waiting, IsUnderway}
use Rattle.cpt_tighten.specs.Records.{best_of, IsTaken}
use Rattle.cpt_tighten.proofs.Ending.{is_plan}
use Rattle.cpt_tighten.proofs.Passing.{end_passes, start_passes}
use Rattle.cpt_tighten.proofs.Places.{none, read_at}
use Rattle.cpt_tighten.proofs.Timing.{passed_within}

-- an event of the plan is that of its place
event_from : (t : TaskShape) (plan : List Occ) (e : Event) (b : Bool) → IsEvent t plan e → e.starts ≡ b → e ≡ event t plan b e.place
event_from t plan e b is same =
    let first : e ≡ event t plan e.starts e.place = ap (λ (x : ℕ). record { time = x; starts = e.starts; place = e.place }) is.time in
    first ∙ ap (λ (s : Bool). event t plan s e.place) same

event_read : (t : TaskShape) (plan : List Occ) (es : List Event) (k : ℕ) (e : Event) → IsAgenda t plan es → k < length es → e ≡ get_or es k e → IsEvent t plan e
event_read t plan es k e a lt read = subst (IsEvent t plan) (sym read) (a.has.only k e lt)

-- the event at a place of the agenda is of a place of the plan
pub place_within : (t : TaskShape) (plan : List Occ) (es : List Event) (k : ℕ) (tight : List Occ) (links : List (Option Finish)) (r : Records) (e : Event) → IsUnderway t plan es k tight links r → k < length es → e ≡ get_or es k e → e.place < length plan
place_within t plan es k tight links r e u lt read = (event_read t plan es k e u.agenda lt read).within

here : (t : TaskShape) (plan : List Occ) (es : List Event) (k : ℕ) (e : Event) (b : Bool) → IsAgenda t plan es → k < length es → e ≡ get_or es k e → e.starts ≡ b → get_or es k (event t plan b e.place) ≡ event t plan b e.place
here t plan es k e b a lt read same = get_or_default es k (event t plan b e.place) e lt ∙ sym read ∙ event_from t plan e b (event_read t plan es k e a lt read) same

-- a start passes
pub pass_start : (t : TaskShape) (plan : List Occ) (es : List Event) (k : ℕ) (tight tight' : List Occ) (links links' : List (Option Finish)) (r : Records) (e : Event) → InBounds t → IsJudgeable t plan
    → IsUnderway t plan es k tight links r → k < length es → e ≡ get_or es k e → e.starts ≡ true
    → tight' ≡ slice_set tight e.place (waiting (occurrence_at tight e.place) (best_of t tight r (action_of t (occurrence_at plan e.place))))
    → links' ≡ slice_set links e.place (best_of t tight r (action_of t (occurrence_at plan e.place))) → IsUnderway t plan es (k + 1) tight' links' r
pass_start t plan es k tight tight' links links' r e bounds judgeable u lt read starts moved linked =
    let within : e.place < length plan = place_within t plan es k tight links r e u lt read in
    let size : length tight ≡ length plan = u.schedule.size in
    let count : length links ≡ length plan = u.count in
    start_passes t plan es k tight tight' links links' r e.place (record {
      bounds = bounds;
      of_task = is_plan t plan judgeable;
      underway = u;
      starts = record { agenda = u.agenda; within = lt; here = here t plan es k e true u.agenda lt read starts };
      within = within;
      waits = record { within = omega (arith, within, size); linked = omega (arith, within, count); schedule = moved; chained = linked };
    })

-- an end passes
pub pass_end : (t : TaskShape) (plan : List Occ) (es : List Event) (k : ℕ) (tight : List Occ) (links : List (Option Finish)) (r r' : Records) (e : Event) → IsUnderway t plan es k tight links r → k < length es → e ≡ get_or es k e → e.starts ≡ false
    → IsTaken r (action_of t (occurrence_at plan e.place)) (finish_of t tight e.place) (finish_of t plan e.place) r' → IsUnderway t plan es (k + 1) tight links r'
pass_end t plan es k tight links r r' e u lt read ends taken =
    end_passes t plan es k tight links r e.place r' (record { underway = u; within = lt; here = here t plan es k e false u.agenda lt read ends; taken = taken })

-- the schedule can be judged
pub judgeable_too : (t : TaskShape) (plan : List Occ) (es : List Event) (k : ℕ) (tight : List Occ) (links : List (Option Finish)) (r : Records) → IsJudgeable t plan → IsUnderway t plan es k tight links r → IsJudgeable t tight
judgeable_too t plan es k tight links r h u i d lt =
    let size : length tight ≡ length plan = u.schedule.size in
    let old : IsJudgeableAt t (occurrence_at plan i) = h i none (omega (arith, lt, size)) in
    let low : (occurrence_at tight i).start ≤ (occurrence_at plan i).start = u.early i in
    let late : (occurrence_at plan i).start ≤ 1000000000000 = old.1 in
    subst (IsJudgeableAt t) (sym (read_at tight i d lt)) (subst (λ a. a < length t.actions) (sym (u.schedule.actions i)) old.0, omega (arith, low, late))

entry_within : (t : TaskShape) (plan : List Occ) (n : ℕ) (P : ℕ → Type 0) (o : Option Finish) → ((i : ℕ) → P i → i < n) → IsBest t plan P o → IfSome o (λ f. f.place < n)
entry_within t plan n P None within h = tt
entry_within t plan n P (Some f) within h = within f.place h.0.among

-- the records name places of the plan
pub adders_within : (t : TaskShape) (plan : List Occ) (es : List Event) (k : ℕ) (tight : List Occ) (links : List (Option Finish)) (r : Records) → k ≤ length es → IsUnderway t plan es k tight links r
    → All (λ o. IfSome o (λ f. f.place < length tight)) r.adders.items
adders_within t plan es k tight links r le u p d lt =
    subst (λ o. IfSome o (λ (f : Finish). f.place < length tight)) (sym (get_or_default r.adders.items p d None lt))
    (entry_within t plan (length tight) (λ i. HasPassed t plan es k false i × Contains (action_of t (occurrence_at plan i)).add p) (entry r.adders.items p)
    (λ i h. let size : length tight ≡ length plan = u.schedule.size in let within : i < length plan = passed_within t plan es k false i u.agenda le h.0 in omega (arith, within, size)) (u.records.adders p))
