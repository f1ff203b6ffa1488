use Rattle.std.proofs.Common.{◌≡◌, ℕ, ◌+◌, ◌<◌, ◌≤◌, ◌⊎◌, inl, inr, Bool, true, false, List, [], ◌∷◌, ◌++◌, length, get_or, take, take_all, refl, sym, ◌∙◌, subst, arith, Contains, length-take-le}
use Rattle.std.specs.Cmp.{IsTotalOrder, bool_cmp_total}
use Rattle.std.specs.List.Sorted.{IsPermutation, IsSorted}
use Rattle.std.specs.Ordering.{is_lt, nat_cmp, ordering_then}
use Rattle.std.proofs.lemmas.Bool.Decides.{nat_tests}
use Rattle.std.specs.declared.cmp.Ordering.TheVariants.{Less, Greater}
use Rattle.std.proofs.lemmas.Cmp.{nat_cmp_total, on_total, then_total}
use Rattle.std.proofs.lemmas.List.{get_or-take, get_or_default}
use Rattle.std.proofs.lemmas.List.Elements.{All-contains, All-push, Contains-append_left, Contains-push}
use Rattle.std.proofs.lemmas.List.Sorted.{ranks_by, sorted_far, All-permutation, Contains-permutation}
use Rattle.cpt_task.specs.declared.plan.Occ.{Occ}
use Rattle.cpt_task.specs.Shape.{TaskShape}
use Rattle.cpt_task.specs.Timeline.{end_of, occurrence_at}
use Rattle.cpt_tighten.specs.declared.agenda.Event.{Event}
use Rattle.cpt_tighten.specs.Agenda.{event, event_cmp, HasEvents, HasPassed, IsAgenda, IsEvent}
use Rattle.cpt_tighten.proofs.Latest.{compared}

event_total : IsTotalOrder event_cmp
event_total = then_total (on_total (λ (e : Event). e.time) nat_cmp_total) (then_total (on_total (λ (e : Event). e.starts) bool_cmp_total) (on_total (λ (e : Event). e.place) nat_cmp_total))

-- an event that stands earlier is not after the other
in_order : (es : List Event) (i j : ℕ) (e f : Event) → IsSorted event_cmp es → i ≤ j → j < length es → get_or es i e ≡ e → get_or es j f ≡ f → is_lt (event_cmp f e) ≡ false
in_order es i j e f sorted le lt at there =
    let far : is_lt (event_cmp (get_or es j e) (get_or es i e)) ≡ false = sorted_far (λ x y. is_lt (event_cmp x y)) (ranks_by event_total (λ x. x)) es sorted i j e le lt in
    let same : get_or es j e ≡ f = get_or_default es j e f lt ∙ there in
    subst (λ x. is_lt (event_cmp x e) ≡ false) same (subst (λ x. is_lt (event_cmp (get_or es j e) x) ≡ false) at far)

end_then_start : (s e : ℕ) → is_lt (ordering_then (nat_cmp s e) Greater) ≡ false → e ≤ s
end_then_start s e h = grind (arith, nat_tests)

start_then_end : (s e : ℕ) → is_lt (ordering_then (nat_cmp e s) Less) ≡ false → s < e
start_then_end s e h = grind (arith, nat_tests)

start_then_start : (s u i j : ℕ) → is_lt (ordering_then (nat_cmp u s) (nat_cmp j i)) ≡ false → s ≤ u
start_then_start s u i j h = grind (arith, nat_tests)

-- what has passed stands before place k
stands_before : (es : List Event) (k : ℕ) (e : Event) → k ≤ length es → Contains (take k es) e → (a : ℕ) × (a < k) × (get_or es a e ≡ e)
stands_before es k e le has =
    let lt : has.0 < length (take k es) = has.1 in
    let size : length (take k es) ≡ k = length-take-le k es le in
    (has.0, omega (arith, lt, size), sym (get_or-take k es has.0 e (omega (arith, lt, size))) ∙ has.2)

-- a start at place k of the agenda
pub record Starts (t : TaskShape) (plan : List Occ) (es : List Event) (k j : ℕ) : Type 0 where
  pub agenda : IsAgenda t plan es
  pub within : k < length es
  pub here : get_or es k (event t plan true j) ≡ event t plan true j

-- who has ended before a start ends no later
pub ended_before : (t : TaskShape) (plan : List Occ) (es : List Event) (k j i : ℕ) → Starts t plan es k j → HasPassed t plan es k false i → end_of t (occurrence_at plan i) ≤ (occurrence_at plan j).start
ended_before t plan es k j i s has =
    let within : k < length es = s.within in
    let a = stands_before es k (event t plan false i) (omega (arith, within)) has in
    end_then_start (occurrence_at plan j).start (end_of t (occurrence_at plan i))
    (in_order es a.0 k (event t plan false i) (event t plan true j) s.agenda.sorted (omega (arith, a.1)) s.within a.2 s.here)

-- and whoever ends no later has ended
pub has_ended : (t : TaskShape) (plan : List Occ) (es : List Event) (k j i : ℕ) → Starts t plan es k j → i < length plan → end_of t (occurrence_at plan i) ≤ (occurrence_at plan j).start
    → HasPassed t plan es k false i
has_ended t plan es k j i s lt le =
    let within : k < length es = s.within in
    let at = s.agenda.has.whole false i lt in
    let size : length (take k es) ≡ k = length-take-le k es (omega (arith, within)) in
    elim (compared at.0 k) [
      | inl before ↦ (at.0, omega (arith, before, size), get_or-take k es at.0 (event t plan false i) before ∙ at.2)
      | inr after ↦
          let late : (occurrence_at plan j).start < end_of t (occurrence_at plan i) = start_then_end (occurrence_at plan j).start (end_of t (occurrence_at plan i))
          (in_order es k at.0 (event t plan true j) (event t plan false i) s.agenda.sorted after at.1 s.here at.2) in
          absurd (omega (arith, late, le))
    ]

-- who has started before a start starts no later
pub started_before : (t : TaskShape) (plan : List Occ) (es : List Event) (k j i : ℕ) → Starts t plan es k j → HasPassed t plan es k true i → (occurrence_at plan i).start ≤ (occurrence_at plan j).start
started_before t plan es k j i s has =
    let within : k < length es = s.within in
    let a = stands_before es k (event t plan true i) (omega (arith, within)) has in
    start_then_start (occurrence_at plan i).start (occurrence_at plan j).start i j
    (in_order es a.0 k (event t plan true i) (event t plan true j) s.agenda.sorted (omega (arith, a.1)) s.within a.2 s.here)

-- what has passed is of a place of the plan
pub passed_within : (t : TaskShape) (plan : List Occ) (es : List Event) (k : ℕ) (starts : Bool) (i : ℕ) → IsAgenda t plan es → k ≤ length es → HasPassed t plan es k starts i → i < length plan
passed_within t plan es k starts i a le has =
    let b = stands_before es k (event t plan starts i) le has in
    let e : IsEvent t plan (event t plan starts i) = All-contains (IsEvent t plan) es (event t plan starts i) a.has.only (b.0, omega (arith, b.1, le), b.2) in
    e.within

-- one more event passes
pub passed_more : (t : TaskShape) (plan : List Occ) (es : List Event) (k : ℕ) (starts : Bool) (i : ℕ) (d : Event) → k < length es → HasPassed t plan es (k + 1) starts i
    → HasPassed t plan es k starts i ⊎ (get_or es k d ≡ event t plan starts i)
passed_more t plan es k starts i d lt has =
    let a = stands_before es (k + 1) (event t plan starts i) (omega (arith, lt)) has in
    let size : length (take k es) ≡ k = length-take-le k es (omega (arith, lt)) in
    elim (compared a.0 k) [
      | inl before ↦ inl (a.0, omega (arith, before, size), get_or-take k es a.0 (event t plan starts i) before ∙ a.2)
      | inr after ↦
          let same : a.0 ≡ k = omega (arith, a.1, after) in
          inr (get_or_default es k d (event t plan starts i) lt ∙ subst (λ n. get_or es n (event t plan starts i) ≡ event t plan starts i) same a.2)
    ]

pub passed_still : (t : TaskShape) (plan : List Occ) (es : List Event) (k : ℕ) (starts : Bool) (i : ℕ) → k < length es → HasPassed t plan es k starts i → HasPassed t plan es (k + 1) starts i
passed_still t plan es k starts i lt has =
    let a = stands_before es k (event t plan starts i) (omega (arith, lt)) has in
    let size : length (take (k + 1) es) ≡ k + 1 = length-take-le (k + 1) es (omega (arith, lt)) in
    (a.0, omega (arith, a.1, size), get_or-take (k + 1) es a.0 (event t plan starts i) (omega (arith, a.1)) ∙ a.2)

pub passed_now : (t : TaskShape) (plan : List Occ) (es : List Event) (k : ℕ) (starts : Bool) (i : ℕ) (d : Event) → k < length es → get_or es k d ≡ event t plan starts i → HasPassed t plan es (k + 1) starts i
passed_now t plan es k starts i d lt is =
    let size : length (take (k + 1) es) ≡ k + 1 = length-take-le (k + 1) es (omega (arith, lt)) in
    (k, omega (arith, size), get_or-take (k + 1) es k (event t plan starts i) (omega arith) ∙ get_or_default es k (event t plan starts i) d lt ∙ is)

-- all has passed at the end
pub passed_all : (t : TaskShape) (plan : List Occ) (es : List Event) (k : ℕ) (starts : Bool) (i : ℕ) → IsAgenda t plan es → length es ≤ k → i < length plan → HasPassed t plan es k starts i
passed_all t plan es k starts i a le lt = subst (λ xs. Contains xs (event t plan starts i)) (sym (take_all k es le)) (a.has.whole starts i lt)

below_next : (k n : ℕ) → k < n + 1 → (k < n) ⊎ (k ≡ n)
below_next k n lt = grind arith

event_is : (t : TaskShape) (plan : List Occ) (starts : Bool) (k : ℕ) → k < length plan → IsEvent t plan (event t plan starts k)
event_is t plan starts k lt = record { within = lt; time = refl }

-- the start and the end of one more place
pub two_more : (t : TaskShape) (plan : List Occ) (n : ℕ) (es : List Event) → n < length plan → HasEvents t plan n es → HasEvents t plan (n + 1) ((es ++ event t plan true n ∷ []) ++ event t plan false n ∷ [])
two_more t plan n es lt h = record {
  whole = λ starts k le. elim (below_next k n le) [
    | inl less ↦ Contains-append_left (es ++ event t plan true n ∷ []) (event t plan false n ∷ []) (event t plan starts k) (Contains-append_left es (event t plan true n ∷ []) (event t plan starts k) (h.whole starts k less))
    | inr same ↦ subst (λ x. Contains ((es ++ event t plan true n ∷ []) ++ event t plan false n ∷ []) (event t plan starts x)) (sym same) (now starts)
  ];
  only = All-push (IsEvent t plan) (es ++ event t plan true n ∷ []) (event t plan false n) (All-push (IsEvent t plan) es (event t plan true n) h.only (event_is t plan true n lt)) (event_is t plan false n lt);
}
  where
    now : (starts : Bool) → Contains ((es ++ event t plan true n ∷ []) ++ event t plan false n ∷ []) (event t plan starts n)
    now true = Contains-append_left (es ++ event t plan true n ∷ []) (event t plan false n ∷ []) (event t plan true n) (Contains-push es (event t plan true n))
    now false = Contains-push (es ++ event t plan true n ∷ []) (event t plan false n)

-- the events in another order
pub same_events : (t : TaskShape) (plan : List Occ) (n : ℕ) (es fs : List Event) → IsPermutation es fs → HasEvents t plan n es → HasEvents t plan n fs
same_events t plan n es fs same h = record {
  whole = λ starts k lt. Contains-permutation es fs (event t plan starts k) same (h.whole starts k lt);
  only = All-permutation (IsEvent t plan) es fs same h.only;
}
