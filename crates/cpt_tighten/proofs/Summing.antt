use Rattle.std.proofs.Common.{◌≡◌, ℕ, suc, ◌+◌, ◌<◌, ◌≤◌, List, [], ◌∷◌, length, refl, sym, ap, ◌∙◌, subst, arith}
use Rattle.std.proofs.lemmas.List.Sums.{sum_by-cons}
use Rattle.cpt_task.specs.declared.task.Action.{Action}
use Rattle.cpt_task.specs.declared.plan.Occ.{Occ}
use Rattle.cpt_task.specs.Shape.{TaskShape}
use Rattle.cpt_task.specs.Timeline.{action_of, end_of, makespan, occurrence_at}
use Rattle.cpt_tighten.specs.Chains.{LeadsTo, total_duration}
use Rattle.cpt_tighten.specs.Laws.{ChainsAddUp, EarliestEndsFirst}
use Rattle.cpt_tighten.specs.Needs.{IsLatest}
use Rattle.cpt_tighten.specs.Schedules.{IsEarliest, IsSchedule, KeepsNeeds}
use Rattle.cpt_tighten.proofs.Latest.{at_most}
use Rattle.cpt_tighten.proofs.Places.{same_action}
use Rattle.cpt_tighten.proofs.Turning.{end_by_makespan}

same_duration : (t : TaskShape) (plan tight : List Occ) (k : ℕ) → IsSchedule plan tight → (action_of t (occurrence_at tight k)).dur ≡ (action_of t (occurrence_at plan k)).dur
same_duration t plan tight k s = ap (λ (a : Action). a.dur) (same_action t plan tight k s)

-- from the start of a place on, the durations add up to the end of the last
adds_up : (t : TaskShape) (plan tight : List Occ) (last i : ℕ) (is : List ℕ) → IsSchedule plan tight → LeadsTo t plan tight last i is
    → (occurrence_at tight i).start + total_duration t plan (i ∷ is) ≡ end_of t (occurrence_at tight last)
adds_up t plan tight last i [] s leads =
    let dur : (action_of t (occurrence_at tight i)).dur ≡ (action_of t (occurrence_at plan i)).dur = same_duration t plan tight i s in
    let sum : total_duration t plan (i ∷ []) ≡ (action_of t (occurrence_at plan i)).dur + total_duration t plan [] = sum_by-cons (λ k. (action_of t (occurrence_at plan k)).dur) i [] in
    let whole : (occurrence_at tight i).start + total_duration t plan (i ∷ []) ≡ end_of t (occurrence_at tight i) = omega (arith, dur, sum) in
    whole ∙ ap (λ x. end_of t (occurrence_at tight x)) leads
adds_up t plan tight last i (j ∷ js) s leads =
    let dur : (action_of t (occurrence_at tight i)).dur ≡ (action_of t (occurrence_at plan i)).dur = same_duration t plan tight i s in
    let sum : total_duration t plan (i ∷ j ∷ js) ≡ (action_of t (occurrence_at plan i)).dur + total_duration t plan (j ∷ js) = sum_by-cons (λ k. (action_of t (occurrence_at plan k)).dur) i (j ∷ js) in
    let rest : (occurrence_at tight j).start + total_duration t plan (j ∷ js) ≡ end_of t (occurrence_at tight last) = adds_up t plan tight last j js s leads.1 in
    let meets : end_of t (occurrence_at tight i) ≡ (occurrence_at tight j).start = leads.0.meets in
    omega (arith, dur, sum, rest, meets)

makespan_reached : (t : TaskShape) (plan : List Occ) (e : ℕ) → ((k : ℕ) → k < length plan → end_of t (occurrence_at plan k) ≤ e) → makespan t plan ≤ e
makespan_reached t [] e h = omega arith
makespan_reached t (o ∷ os) e h =
    let first : end_of t o ≤ e = h 0 (omega arith) in
    let rest : makespan t os ≤ e = makespan_reached t os e (λ k lt. h (suc k) (omega (arith, lt))) in
    omega (arith, first, rest)

-- the latest place of all ends at the makespan
pub latest_is_makespan : (t : TaskShape) (tight : List Occ) (n last : ℕ) → length tight ≡ n → IsLatest t tight (λ k. k < n) last → end_of t (occurrence_at tight last) ≡ makespan t tight
latest_is_makespan t tight n last size l =
    let lt : last < n = l.among in
    let low : end_of t (occurrence_at tight last) ≤ makespan t tight = end_by_makespan t tight last (omega (arith, lt, size)) in
    let high : makespan t tight ≤ end_of t (occurrence_at tight last) =
    makespan_reached t tight (end_of t (occurrence_at tight last)) (λ k within. at_most (end_of t (occurrence_at tight last)) (end_of t (occurrence_at tight k)) last k (l.last k (omega (arith, within, size)))) in
    omega (arith, low, high)

pub chains_add_up : ChainsAddUp
chains_add_up t plan tight [] s chain = empty t plan tight s chain
  where
    no_places : (xs : List Occ) → length xs ≡ 0 → xs ≡ []
    no_places [] e = refl
    no_places (x ∷ xs) e = absurd (omega (arith, e))

    empty : (t : TaskShape) (plan tight : List Occ) → IsSchedule plan tight → plan ≡ [] → total_duration t plan [] ≡ makespan t tight
    empty t plan tight s e =
        let size : length tight ≡ length plan = s.size in
        let none : length plan ≡ 0 = ap (λ (xs : List Occ). length xs) e in
        subst (λ xs. 0 ≡ makespan t xs) (sym (no_places tight (omega (arith, size, none)))) refl
chains_add_up t plan tight (i ∷ is) s chain =
    let first : (occurrence_at tight i).start ≡ 0 = chain.0 in
    let sum : (occurrence_at tight i).start + total_duration t plan (i ∷ is) ≡ end_of t (occurrence_at tight chain.1.0) = adds_up t plan tight chain.1.0 i is s chain.1.2 in
    let most : end_of t (occurrence_at tight chain.1.0) ≡ makespan t tight = latest_is_makespan t tight (length plan) chain.1.0 s.size chain.1.1 in
    omega (arith, first, sum, most)

later_ends : (t : TaskShape) (plan tight other : List Occ) → IsEarliest t plan tight → IsSchedule plan other → KeepsNeeds t plan other → (k : ℕ) → end_of t (occurrence_at tight k) ≤ end_of t (occurrence_at other k)
later_ends t plan tight other e s keeps k =
    let low : (occurrence_at tight k).start ≤ (occurrence_at other k).start = e.least other s keeps k in
    let here : (action_of t (occurrence_at tight k)).dur ≡ (action_of t (occurrence_at plan k)).dur = same_duration t plan tight k e.schedule in
    let there : (action_of t (occurrence_at other k)).dur ≡ (action_of t (occurrence_at plan k)).dur = same_duration t plan other k s in
    omega (arith, low, here, there)

pub earliest_ends_first : EarliestEndsFirst
earliest_ends_first t plan tight other e s keeps =
    let first : length tight ≡ length plan = e.schedule.size in
    let second : length other ≡ length plan = s.size in
    makespan_reached t tight (makespan t other) (λ k lt.
    let ends : end_of t (occurrence_at tight k) ≤ end_of t (occurrence_at other k) = later_ends t plan tight other e s keeps k in
    let most : end_of t (occurrence_at other k) ≤ makespan t other = end_by_makespan t other k (omega (arith, lt, first, second)) in
    omega (arith, ends, most))
