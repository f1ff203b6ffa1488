use Rattle.std.proofs.Common.{◌≡◌, ℕ, zero, suc, ◌+◌, ◌<◌, ◌≤◌, ◌⊎◌, inl, inr, Bool, true, false, not, ◌&&◌, ◌||◌, nat_eq, List, get_or, All, Contains, refl, arith}
use Rattle.std.proofs.lemmas.Bool.Decides.{nat_tests}
use Rattle.std.proofs.lemmas.List.Folds.{Any-from_list_any}
use Rattle.std.proofs.lemmas.List.Elements.{All-contains}
use Rattle.cpt_task.specs.declared.plan.Occ.{Occ}
use Rattle.cpt_task.specs.Shape.{TaskShape, InBounds}
use Rattle.cpt_task.specs.Timeline.{action_of, end_of, is_in, idle, IsPlan, adds_at, deletes_at, holds_at, IsMet, IsValid, IsOccurrence}
use Rattle.cpt_reach.specs.Reached.{IsClosed, IsLeast}
use Rattle.cpt_reach.specs.Plans.{IsKeptPlan}
use Rattle.cpt_reach.proofs.Numbering.{contains_from_in}

-- the reached atoms are the least set
pub reached_is_least : (t : TaskShape) → IsLeast t
reached_is_least t = record {
  initial = λ k d lt set closed. closed.initial k d lt;
  added = λ k d lt pre q e within set closed. closed.added k d lt (λ i c low. pre i c low set closed) q e within;
  least = λ set closed p reached. reached set closed;
}

either : (h d a : Bool) → ((h && not d) || a) ≡ true → (h ≡ true) ⊎ (a ≡ true)
either true d a e = inl refl
either false d a e = inr e

both : (e : ℕ) (s : ℕ) (b : Bool) → (nat_eq e s && b) ≡ true → (e ≡ s) × (b ≡ true)
both e s true h = grind (arith, nat_tests)
both e s false h = grind (arith, nat_tests)

-- an occurrence that adds the atom at that moment
adder : (t : TaskShape) (plan : List Occ) (time p : ℕ) → adds_at t plan time p ≡ true → (o : Occ) × Contains plan o × (end_of t o ≡ time) × Contains (action_of t o).add p
adder t plan time p e =
    let a = Any-from_list_any (λ o. nat_eq (end_of t o) time && is_in p (action_of t o).add) plan e in
    let b = both (end_of t a.1) time (is_in p (action_of t a.1).add) a.4 in
    (a.1, (a.0, a.2, a.3), b.0, contains_from_in p (action_of t a.1).add b.1)

-- an action of the task lasts for a moment at least
pub lasts : (t : TaskShape) → InBounds t → (o : Occ) → IsOccurrence t o → 0 < (action_of t o).dur
lasts t fine o lt = let h = fine.durations o.act idle lt in omega (arith, h.0)

-- where the preconditions of an occurrence hold at its start, and what holds by then is in the set, what it adds is in the set
in_set : (t : TaskShape) → (set : ℕ → Bool) → IsClosed t set → (o : Occ) → IsOccurrence t o → All (λ p. set p ≡ true) (action_of t o).pre → (p : ℕ) → Contains (action_of t o).add p → set p ≡ true
in_set t set closed o lt pre p has = All-contains (λ q. set q ≡ true) (action_of t o).add p (closed.added o.act idle lt pre) has

-- what holds in a plan whose occurrences are met is in each closed set
held : (t : TaskShape) → InBounds t → (plan : List Occ) → IsPlan t plan → All (IsMet t plan) plan → (set : ℕ → Bool) → IsClosed t set → (n time p : ℕ) → time ≤ n → holds_at t plan time p ≡ true → set p ≡ true
held t fine plan of_task met set closed n zero p le h = All-contains (λ q. set q ≡ true) t.init p closed.initial (contains_from_in p t.init h)
held t fine plan of_task met set closed zero (suc time) p le h = absurd (omega arith)
held t fine plan of_task met set closed (suc n) (suc time) p le h =
    elim (either (holds_at t plan time p) (deletes_at t plan (suc time) p) (adds_at t plan (suc time) p) h) [
      | inl before ↦ held t fine plan of_task met set closed n time p (omega arith) before
      | inr added ↦
          let a = adder t plan (suc time) p added in
          let o = a.0 in
          let lt : IsOccurrence t o = All-contains (IsOccurrence t) plan o of_task a.1 in
          let long : 0 < (action_of t o).dur = lasts t fine o lt in
          let ends : o.start + (action_of t o).dur ≡ suc time = a.2 in
          let needs : IsMet t plan o = All-contains (IsMet t plan) plan o met a.1 in
          in_set t set closed o lt (λ k d low. held t fine plan of_task met set closed n o.start _ (omega (arith, long, ends, le)) (needs k d low o.start (omega arith) (omega (arith, long)))) p a.3
    ]

-- each action of a valid plan is kept
pub valid_is_kept : (t : TaskShape) → InBounds t → (plan : List Occ) → IsValid t plan → IsKeptPlan t plan
valid_is_kept t fine plan valid k d lt =
    let o = get_or plan k d in (
      valid.of_task k d lt,
      λ i c low set closed. held t fine plan valid.of_task valid.met set closed o.start o.start _ (omega arith)
          (let long : 0 < (action_of t o).dur = lasts t fine o (valid.of_task k d lt) in valid.met k d lt i c low o.start (omega arith) (omega (arith, long))),
    )
