use Rattle.std.proofs.Common.{◌≡◌, ℕ, ◌<◌, Bool, true, ◌&&◌, nat_eq, List, length, get_or, slice_index_or, sym, ap, ◌∙◌, subst, arith, Contains}
use Rattle.std.specs.List.{list_any}
use Rattle.std.proofs.lemmas.Bool.Decides.{nat_tests}
use Rattle.std.proofs.lemmas.List.{get_or_default}
use Rattle.std.proofs.lemmas.List.Folds.{Any-from_list_any, list_any-from_Any}
use Rattle.cpt_task.specs.declared.plan.Occ.{Occ}
use Rattle.cpt_task.specs.Shape.{TaskShape, InBounds, IsDuration}
use Rattle.cpt_task.specs.Timeline.{action_of, adds_at, deletes_at, end_of, idle, is_in, occurrence_at, IsPlan}
use Rattle.cpt_tighten.specs.Schedules.{IsSchedule}

abbrev pub none : Occ
none = record { act = 0; start = 0 }

-- an occurrence ends after it starts
pub lasts : (t : TaskShape) (plan : List Occ) (k : ℕ) → InBounds t → IsPlan t plan → k < length plan → (occurrence_at plan k).start < end_of t (occurrence_at plan k)
lasts t plan k b p lt =
    let d : IsDuration (action_of t (occurrence_at plan k)).dur = b.durations (occurrence_at plan k).act idle (p k none lt) in
    omega (arith, d.0)

-- the occurrence at a place, however it is read
pub read_at : (plan : List Occ) (k : ℕ) (d : Occ) → k < length plan → get_or plan k d ≡ occurrence_at plan k
read_at plan k d lt = get_or_default plan k d none lt

-- a schedule has the same actions
pub same_action : (t : TaskShape) (plan other : List Occ) (k : ℕ) → IsSchedule plan other → action_of t (occurrence_at other k) ≡ action_of t (occurrence_at plan k)
same_action t plan other k s = ap (λ a. slice_index_or t.actions a idle) (s.actions k)

-- a test that some occurrence passes, by its place
pub at_place : (plan : List Occ) (f : Occ → Bool) → list_any f plan ≡ true → (k : ℕ) × (k < length plan) × (f (occurrence_at plan k) ≡ true)
at_place plan f h =
    let a = Any-from_list_any f plan h in
    (a.0, a.2, subst (λ o. f o ≡ true) (sym a.3 ∙ read_at plan a.0 a.1 a.2) a.4)

pub from_place : (plan : List Occ) (f : Occ → Bool) (k : ℕ) → k < length plan → f (occurrence_at plan k) ≡ true → list_any f plan ≡ true
from_place plan f k lt h = list_any-from_Any f plan (k, occurrence_at plan k, lt, read_at plan k (occurrence_at plan k) lt, h)

pub in_from : (xs : List ℕ) (p : ℕ) → is_in p xs ≡ true → Contains xs p
in_from xs p h =
    let a = Any-from_list_any (nat_eq p) xs h in
    let e : a.1 ≡ p = grind (arith, nat_tests, a.4) in
    subst (Contains xs) e (a.0, a.2, a.3)

itself : (p : ℕ) → nat_eq p p ≡ true
itself p = grind (arith, nat_tests)

pub in_to : (xs : List ℕ) (p : ℕ) → Contains xs p → is_in p xs ≡ true
in_to xs p h = list_any-from_Any (nat_eq p) xs (h.0, p, h.1, h.2, itself p)

both : (e s : ℕ) (b : Bool) → (nat_eq e s && b) ≡ true → (e ≡ s) × (b ≡ true)
both e s b h = (grind (arith, nat_tests), grind (arith, nat_tests))

pub joined : (e : ℕ) (b : Bool) → b ≡ true → (nat_eq e e && b) ≡ true
joined e b h = grind (arith, nat_tests)

-- who ends at a moment and adds the atom
pub adder_at : (t : TaskShape) (plan : List Occ) (s p : ℕ) → adds_at t plan s p ≡ true
    → (k : ℕ) × (k < length plan) × Contains (action_of t (occurrence_at plan k)).add p × (end_of t (occurrence_at plan k) ≡ s)
adder_at t plan s p h =
    let a = at_place plan (λ o. nat_eq (end_of t o) s && is_in p (action_of t o).add) h in
    let o = occurrence_at plan a.0 in
    let c = both (end_of t o) s (is_in p (action_of t o).add) a.2 in
    (a.0, a.1, in_from (action_of t o).add p c.1, c.0)

-- who ends at a moment and deletes the atom
pub deleter_at : (t : TaskShape) (plan : List Occ) (s p : ℕ) → deletes_at t plan s p ≡ true
    → (k : ℕ) × (k < length plan) × Contains (action_of t (occurrence_at plan k)).dele p × (end_of t (occurrence_at plan k) ≡ s)
deleter_at t plan s p h =
    let a = at_place plan (λ o. nat_eq (end_of t o) s && is_in p (action_of t o).dele) h in
    let o = occurrence_at plan a.0 in
    let c = both (end_of t o) s (is_in p (action_of t o).dele) a.2 in
    (a.0, a.1, in_from (action_of t o).dele p c.1, c.0)

pub adds_then : (t : TaskShape) (plan : List Occ) (k p : ℕ) → k < length plan → Contains (action_of t (occurrence_at plan k)).add p → adds_at t plan (end_of t (occurrence_at plan k)) p ≡ true
adds_then t plan k p lt has =
    let o = occurrence_at plan k in
    from_place plan (λ x. nat_eq (end_of t x) (end_of t o) && is_in p (action_of t x).add) k lt (joined (end_of t o) (is_in p (action_of t o).add) (in_to (action_of t o).add p has))

pub deletes_then : (t : TaskShape) (plan : List Occ) (k p : ℕ) → k < length plan → Contains (action_of t (occurrence_at plan k)).dele p → deletes_at t plan (end_of t (occurrence_at plan k)) p ≡ true
deletes_then t plan k p lt has =
    let o = occurrence_at plan k in
    from_place plan (λ x. nat_eq (end_of t x) (end_of t o) && is_in p (action_of t x).dele) k lt (joined (end_of t o) (is_in p (action_of t o).dele) (in_to (action_of t o).dele p has))
