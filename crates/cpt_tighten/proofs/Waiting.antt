use Rattle.std.proofs.Common.{ℕ, ◌<◌, ◌⊎◌, inl, inr, false, List, length, None, arith, Contains}
use Rattle.cpt_task.specs.declared.task.Action.{Action}
use Rattle.cpt_task.specs.declared.plan.Occ.{Occ}
use Rattle.cpt_task.specs.Shape.{TaskShape}
use Rattle.cpt_task.specs.Interference.{Interferes}
use Rattle.cpt_task.specs.Timeline.{action_of, occurrence_at}
use Rattle.cpt_tighten.specs.declared.agenda.Event.{Event}
use Rattle.cpt_tighten.specs.declared.records.Records.{Records}
use Rattle.cpt_tighten.specs.Agenda.{HasPassed}
use Rattle.cpt_tighten.specs.Best.{best_over, entry, moved, IsBest}
use Rattle.cpt_tighten.specs.Links.{AreRecorded}
use Rattle.cpt_tighten.specs.Needs.{IsAdder, IsLastAdder, IsNeeded}
use Rattle.cpt_tighten.specs.Records.{best_of}
use Rattle.cpt_tighten.proofs.Bests.{best_same, moved_best, over_best, Among}
use Rattle.cpt_tighten.proofs.Timing.{ended_before, has_ended, passed_within, Starts}

-- who has ended with the atom in a list
abbrev Ended : TaskShape → List Occ → List Event → ℕ → (Action → List ℕ) → ℕ → ℕ → Type 0
Ended t plan es k list p i = HasPassed t plan es k false i × Contains (list (action_of t (occurrence_at plan i))) p

-- whom an occurrence of the action waits for, as the records have it
abbrev Awaited : TaskShape → List Occ → List Event → ℕ → ℕ → Action → ℕ → Type 0
Awaited t plan es k j a i =
    ((((⊥ ⊎ Among a.dele (Ended t plan es k (λ (x : Action). x.pre)) i) ⊎ Among a.dele (Ended t plan es k (λ (x : Action). x.add)) i) ⊎ Among a.pre (Ended t plan es k (λ (x : Action). x.dele)) i)
    ⊎ Among a.add (Ended t plan es k (λ (x : Action). x.dele)) i) ⊎ Among a.pre (λ p. IsLastAdder t plan p (occurrence_at plan j).start) i

no_one : (t : TaskShape) (plan : List Occ) → IsBest t plan (λ i. ⊥) None
no_one t plan = λ i none. none

-- who has added the atom and ended, by the time of the start
adder_here : (t : TaskShape) (plan : List Occ) (es : List Event) (k j p i : ℕ) → Starts t plan es k j → Ended t plan es k (λ (x : Action). x.add) p i → IsAdder t plan p (occurrence_at plan j).start i
adder_here t plan es k j p i s e =
    let within : k < length es = s.within in
    record { within = passed_within t plan es k false i s.agenda (omega (arith, within)) e.0; adds = e.1; ended = ended_before t plan es k j i s e.0 }

adder_there : (t : TaskShape) (plan : List Occ) (es : List Event) (k j p i : ℕ) → Starts t plan es k j → IsAdder t plan p (occurrence_at plan j).start i → Ended t plan es k (λ (x : Action). x.add) p i
adder_there t plan es k j p i s a = (has_ended t plan es k j i s a.within a.ended, a.adds)

last_adders : (t : TaskShape) (plan tight : List Occ) (es : List Event) (k j : ℕ) (r : Records) → Starts t plan es k j → AreRecorded t plan tight es k r
    → (p : ℕ) → IsBest t tight (IsLastAdder t plan p (occurrence_at plan j).start) (moved t tight (entry r.adders.items p))
last_adders t plan tight es k j r s recorded p =
    moved_best t plan tight (IsAdder t plan p (occurrence_at plan j).start) (entry r.adders.items p)
    (best_same t plan (Ended t plan es k (λ (x : Action). x.add) p) (IsAdder t plan p (occurrence_at plan j).start) (entry r.adders.items p)
    (λ i e. adder_here t plan es k j p i s e) (λ i a. adder_there t plan es k j p i s a) (recorded.adders p))

awaited_best : (t : TaskShape) (plan tight : List Occ) (es : List Event) (k j : ℕ) (r : Records) (a : Action) → Starts t plan es k j → AreRecorded t plan tight es k r
    → IsBest t tight (Awaited t plan es k j a) (best_of t tight r a)
awaited_best t plan tight es k j r a s recorded =
    let pres = Ended t plan es k (λ (x : Action). x.pre) in
    let adds = Ended t plan es k (λ (x : Action). x.add) in
    let deles = Ended t plan es k (λ (x : Action). x.dele) in
    let A : ℕ → Type 0 = λ i. ⊥ ⊎ Among a.dele pres i in
    let B : ℕ → Type 0 = λ i. A i ⊎ Among a.dele adds i in
    let C : ℕ → Type 0 = λ i. B i ⊎ Among a.pre deles i in
    let D : ℕ → Type 0 = λ i. C i ⊎ Among a.add deles i in
    let ba = best_over (entry r.needs.items) a.dele None in
    let bb = best_over (entry r.adds.items) a.dele ba in
    let bc = best_over (entry r.deletes.items) a.pre bb in
    let bd = best_over (entry r.deletes.items) a.add bc in
    let first : IsBest t tight A ba = over_best t tight (λ i. ⊥) pres (entry r.needs.items) a.dele None recorded.needs (no_one t tight) in
    let second : IsBest t tight B bb = over_best t tight A adds (entry r.adds.items) a.dele ba recorded.adds first in
    let third : IsBest t tight C bc = over_best t tight B deles (entry r.deletes.items) a.pre bb recorded.deletes second in
    let fourth : IsBest t tight D bd = over_best t tight C deles (entry r.deletes.items) a.add bc recorded.deletes third in
    over_best t tight D (λ p. IsLastAdder t plan p (occurrence_at plan j).start) (λ p. moved t tight (entry r.adders.items p)) a.pre bd (last_adders t plan tight es k j r s recorded) fourth

-- who is awaited is needed
needed_here : (t : TaskShape) (plan : List Occ) (es : List Event) (k j i : ℕ) → Starts t plan es k j → j < length plan → Awaited t plan es k j (action_of t (occurrence_at plan j)) i → IsNeeded t plan i j
needed_here t plan es k j i s lj h =
    elim h [
      | inr e ↦ record { first = e.2.among.within; second = lj; ended = e.2.among.ended; cause = inr (e.0, e.1, e.2) }
      | inl h ↦ elim h [
        | inr d ↦ by d.2.0 (inl (inr (d.0, d.2.1, d.1)))
        | inl h ↦ elim h [
          | inr c ↦ by c.2.0 (inl (inl (c.0, c.2.1, c.1)))
          | inl h ↦ elim h [
            | inr b ↦ by b.2.0 (inr (inr (b.0, b.1, b.2.1)))
            | inl h ↦ elim h [
              | inr a ↦ by a.2.0 (inr (inl (a.0, a.1, a.2.1)))
              | inl none ↦ absurd none
            ]
          ]
        ]
      ]
    ]
  where
    by : HasPassed t plan es k false i → Interferes (action_of t (occurrence_at plan i)) (action_of t (occurrence_at plan j)) → IsNeeded t plan i j
    by passed clash =
        let within : k < length es = s.within in
        record { first = passed_within t plan es k false i s.agenda (omega (arith, within)) passed; second = lj; ended = ended_before t plan es k j i s passed; cause = inl clash }

-- who is needed is awaited
needed_there : (t : TaskShape) (plan : List Occ) (es : List Event) (k j i : ℕ) → Starts t plan es k j → IsNeeded t plan i j → Awaited t plan es k j (action_of t (occurrence_at plan j)) i
needed_there t plan es k j i s n =
    let passed = has_ended t plan es k j i s n.first n.ended in
    elim n.cause [
      | inr e ↦ inr (e.0, e.1, e.2)
      | inl clash ↦ elim clash [
        | inl d ↦ elim d [
          | inl c ↦ inl (inl (inr (c.0, c.2, (passed, c.1))))
          | inr c ↦ inl (inr (c.0, c.2, (passed, c.1)))
        ]
        | inr d ↦ elim d [
          | inl c ↦ inl (inl (inl (inl (inr (c.0, c.1, (passed, c.2))))))
          | inr c ↦ inl (inl (inl (inr (c.0, c.1, (passed, c.2)))))
        ]
      ]
    ]

-- at a start, the records tell who of those that are needed before it ends last
pub needed_best : (t : TaskShape) (plan tight : List Occ) (es : List Event) (k j : ℕ) (r : Records) → Starts t plan es k j → j < length plan → AreRecorded t plan tight es k r
    → IsBest t tight (λ i. IsNeeded t plan i j) (best_of t tight r (action_of t (occurrence_at plan j)))
needed_best t plan tight es k j r s lj recorded =
    best_same t tight (Awaited t plan es k j (action_of t (occurrence_at plan j))) (λ i. IsNeeded t plan i j) (best_of t tight r (action_of t (occurrence_at plan j)))
    (λ i h. needed_here t plan es k j i s lj h) (λ i n. needed_there t plan es k j i s n)
    (awaited_best t plan tight es k j r (action_of t (occurrence_at plan j)) s recorded)
