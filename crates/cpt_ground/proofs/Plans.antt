use Rattle.std.proofs.Common.{◌≡◌, ℕ, ◌<◌, ◌≤◌, inl, inr, max, Bool, true, false, not, ◌||◌, List, [], ◌∷◌, All, Contains, Some, refl, sym, ap, ◌∙◌, subst, arith}
use Rattle.std.specs.Prelude.{slice_index_or, slice_get}
use Rattle.std.specs.List.{list_any}
use Rattle.std.proofs.lemmas.List.Folds.{list_any_at}
use Rattle.std.proofs.lemmas.List.Elements.{All-contains, All-contains_itself}
use Rattle.std.proofs.lemmas.Slice.Zip.{AllZip-long}
use Rattle.cpt_facts.specs.declared.problem.Fact.{Fact}
use Rattle.cpt_task.specs.declared.plan.Occ.{Occ}
use Rattle.cpt_task.specs.declared.task.Action.{Action}
use Rattle.cpt_task.specs.Interference.{Disturbs, Interferes}
use Rattle.cpt_task.specs.Shape.{TaskShape, InBounds, IsDuration}
use Rattle.cpt_task.specs.Timeline.{action_of, end_of, holds_at, occurrence_at, idle, makespan, IsValid, IsPlan, IsMet, HoldsFrom, HoldsThen, Clashes}
use Rattle.cpt_ground.specs.Compiled.{Literal, there, missing, needs, adds, deletes, is_goal, AreLiterals, IsCompiledAction, IsCompiledBy}
use Rattle.cpt_ground.specs.Signed.{Signed, SignedAction, has, signed_idle, signed_action_of, signed_end_of, signed_makespan, signed_holds_at, SignedDisturbs, SignedInterferes, SignedClashes, SignedApart, IsSignedOccurrence, IsThroughout, SignedMet, IsValidSigned}
use Rattle.cpt_ground.specs.Laws.{HasSamePlans, SamePlans}
use Rattle.cpt_ground.proofs.Facts.{both, or_left, or_right, all_has, all_from_has}
use Rattle.cpt_ground.proofs.Numbers.{action_compiled, number_of}
use Rattle.cpt_ground.proofs.Unique.{one_reading}
use Rattle.cpt_ground.proofs.Timelines.{Beside, same_end, TakesTime, is_so, literal_holds}

beside : {s : Signed} {literals : List Literal} {t : TaskShape} → IsCompiledBy s literals t → InBounds t → Beside s literals t
beside {s} {literals} {t} c bounds = record {
  listed = c.listed;
  fit = λ o. action_compiled literals s.actions t.actions o.act c.actions;
  init = c.init;
  goal = c.goal;
  size = AllZip-long (IsCompiledAction literals) s.actions t.actions c.actions;
  durations = bounds.durations;
}

same_makespan : {s : Signed} {literals : List Literal} {t : TaskShape} → Beside s literals t → (plan : List Occ) → makespan t plan ≡ signed_makespan s plan
same_makespan b [] = refl
same_makespan {s} {literals} {t} b (o ∷ os) =
    ap (λ n. max n (makespan t os)) (same_end b o) ∙ ap (λ n. max (signed_end_of s o) n) (same_makespan b os)

-- the literals of an action have numbers
record Found (literals : List Literal) (a : SignedAction) : Type 0 where
  present : (f : Fact) → ((has a.present f || has a.add f) || has a.dele f) ≡ true → (n : ℕ) × (slice_get literals n ≡ Some (there f))
  absent : (f : Fact) → has a.absent f ≡ true → (n : ℕ) × (slice_get literals n ≡ Some (missing f))

found : (s : Signed) (literals : List Literal) (o : Occ) → AreLiterals s literals → IsSignedOccurrence s o → Found literals (signed_action_of s o)
found s literals o listed lt = record {
  present = λ f h. number_of s literals listed (there f)
      (or_right (has s.init f || has s.goal f) (list_any (λ (a : SignedAction). (has a.present f || has a.add f) || has a.dele f) s.actions)
      (list_any_at (λ (a : SignedAction). (has a.present f || has a.add f) || has a.dele f) s.actions o.act signed_idle lt h));
  absent = λ f h. number_of s literals listed (missing f)
      (or_right (has s.absent f) (list_any (λ (a : SignedAction). has a.absent f) s.actions)
      (list_any_at (λ (a : SignedAction). has a.absent f) s.actions o.act signed_idle lt h));
}

swap : (a b : SignedAction) → SignedInterferes a b → SignedInterferes b a
swap a b h = elim h [ inl x ↦ inr x | inr x ↦ inl x ]

by_need : (a b : SignedAction) (l : Literal) → deletes a l ≡ true → needs b l ≡ true → SignedInterferes a b
by_need a b (there f) h k = inl (inl (f, h, k))
by_need a b (missing f) h k = inl (inr (inr (f, h, k)))

by_add : (a b : SignedAction) (l : Literal) → deletes a l ≡ true → adds b l ≡ true → SignedInterferes a b
by_add a b (there f) h k = inl (inr (inl (f, h, k)))
by_add a b (missing f) h k = inr (inr (inl (f, (both (has b.dele f) (not (has b.add f)) k).0, h)))

-- one number stands for one literal
one_literal : (literals : List Literal) (n : ℕ) (l m : Literal) → slice_get literals n ≡ Some l → slice_get literals n ≡ Some m → m ≡ l
one_literal literals n l m e g = cc

from_disturbs : (literals : List Literal) (a b : SignedAction) (x y : Action) → IsCompiledAction literals a x → IsCompiledAction literals b y → Disturbs x y → SignedInterferes a b
from_disturbs literals a b x y f g h =
    elim h [
      | inl w ↦
          let u = (f.dele.exact w.0).0 w.1 in
          let v = (g.pre.exact w.0).0 w.2 in
          by_need a b u.0 u.2 (subst (λ l. needs b l ≡ true) (one_literal literals w.0 u.0 v.0 u.1 v.1) v.2)
      | inr w ↦
          let u = (f.dele.exact w.0).0 w.1 in
          let v = (g.add.exact w.0).0 w.2 in
          by_add a b u.0 u.2 (subst (λ l. adds b l ≡ true) (one_literal literals w.0 u.0 v.0 u.1 v.1) v.2)
    ]

from_interferes : (literals : List Literal) (a b : SignedAction) (x y : Action) → IsCompiledAction literals a x → IsCompiledAction literals b y → Interferes x y → SignedInterferes a b
from_interferes literals a b x y f g h =
    elim h [ inl w ↦ from_disturbs literals a b x y f g w | inr w ↦ swap b a (from_disturbs literals b a y x g f w) ]

to_disturbs : (literals : List Literal) (a b : SignedAction) (x y : Action) → IsCompiledAction literals a x → IsCompiledAction literals b y
    → Found literals a → Found literals b → SignedDisturbs a b → Disturbs x y
to_disturbs literals a b x y f g fa fb h =
    elim h [
      | inl w ↦
          let n = fa.present w.0 (or_right (has a.present w.0 || has a.add w.0) (has a.dele w.0) w.1) in
          inl (n.0, (f.dele.exact n.0).1 (there w.0, n.1, w.1), (g.pre.exact n.0).1 (there w.0, n.1, w.2))
      | inr rest ↦ elim rest [
        | inl w ↦
            let n = fa.present w.0 (or_right (has a.present w.0 || has a.add w.0) (has a.dele w.0) w.1) in
            inr (n.0, (f.dele.exact n.0).1 (there w.0, n.1, w.1), (g.add.exact n.0).1 (there w.0, n.1, w.2))
        | inr w ↦
            let n = fb.absent w.0 w.2 in
            inl (n.0, (f.dele.exact n.0).1 (missing w.0, n.1, w.1), (g.pre.exact n.0).1 (missing w.0, n.1, w.2))
      ]
    ]

to_interferes : (literals : List Literal) (a b : SignedAction) (x y : Action) → IsCompiledAction literals a x → IsCompiledAction literals b y
    → Found literals a → Found literals b → SignedInterferes a b → Interferes x y
to_interferes literals a b x y f g fa fb h =
    elim h [ inl w ↦ inl (to_disturbs literals a b x y f g fa fb w) | inr w ↦ inr (to_disturbs literals b a y x g f fb fa w) ]

-- the occurrences at two places clash in the one exactly where they do in the other
from_clash : {s : Signed} {literals : List Literal} {t : TaskShape} → Beside s literals t → (plan : List Occ) (i j : ℕ) → Clashes t plan i j → SignedClashes s plan i j
from_clash {s} {literals} {t} b plan i j h =
    let o : Occ = occurrence_at plan i in
    let q : Occ = occurrence_at plan j in
    record {
      overlap = record {
        first = subst (λ n. (occurrence_at plan i).start < n) (same_end b (occurrence_at plan j)) h.0.first;
        second = subst (λ n. (occurrence_at plan j).start < n) (same_end b (occurrence_at plan i)) h.0.second;
      };
      interfere = from_interferes literals (signed_action_of s o) (signed_action_of s q) (action_of t o) (action_of t q) (b.fit o) (b.fit q) h.1;
    }

to_clash : {s : Signed} {literals : List Literal} {t : TaskShape} → Beside s literals t → (plan : List Occ) (i j : ℕ)
    → IsSignedOccurrence s (occurrence_at plan i) → IsSignedOccurrence s (occurrence_at plan j) → SignedClashes s plan i j → Clashes t plan i j
to_clash {s} {literals} {t} b plan i j known known' h =
    let o : Occ = occurrence_at plan i in
    let q : Occ = occurrence_at plan j in (
      record {
        first = subst (λ n. (occurrence_at plan i).start < n) (sym (same_end b (occurrence_at plan j))) h.overlap.first;
        second = subst (λ n. (occurrence_at plan j).start < n) (sym (same_end b (occurrence_at plan i))) h.overlap.second;
      },
      to_interferes literals (signed_action_of s o) (signed_action_of s q) (action_of t o) (action_of t q) (b.fit o) (b.fit q)
          (found s literals o b.listed known) (found s literals q b.listed known') h.interfere,
    )

-- each occurrence is one of the other, and takes time
same_plan : {s : Signed} {literals : List Literal} {t : TaskShape} → Beside s literals t → (plan : List Occ) → IsPlan t plan → All (IsSignedOccurrence s) plan
same_plan {s} {literals} {t} b plan h = λ k d lt. subst (λ n. (slice_index_or plan k d).act < n) b.size (h k d lt)

plan_back : {s : Signed} {literals : List Literal} {t : TaskShape} → Beside s literals t → (plan : List Occ) → All (IsSignedOccurrence s) plan → IsPlan t plan
plan_back {s} {literals} {t} b plan h = λ k d lt. subst (λ n. (slice_index_or plan k d).act < n) (sym b.size) (h k d lt)

takes_time : {s : Signed} {literals : List Literal} {t : TaskShape} → Beside s literals t → (plan : List Occ) → IsPlan t plan → TakesTime s plan
takes_time {s} {literals} {t} b plan of_task k lt =
    let none : Occ = record { act = 0; start = 0 } in
    let long : IsDuration (action_of t (occurrence_at plan k)).dur = b.durations (occurrence_at plan k).act idle (of_task k none lt) in
    subst (λ n. 0 < n) (b.fit (occurrence_at plan k)).dur (let one : 1 ≤ (action_of t (occurrence_at plan k)).dur = long.0 in omega arith)

not_true : (b : Bool) → not b ≡ true → b ≡ false
not_true true h = cc
not_true false h = refl

not_false : (b : Bool) → b ≡ false → not b ≡ true
not_false true h = cc
not_false false h = refl

-- the needs of an occurrence are met in the one exactly where they are in the other
from_met : {s : Signed} {literals : List Literal} {t : TaskShape} (b : Beside s literals t) (plan : List Occ) (o : Occ) → SignedApart s plan → TakesTime s plan
    → IsSignedOccurrence s o → IsMet t plan o → SignedMet s plan o
from_met {s} {literals} {t} b plan o apart long known met =
    let a : SignedAction = signed_action_of s o in
    let e : end_of t o ≡ signed_end_of s o = same_end b o in
    let f : Found literals (signed_action_of s o) = found s literals o b.listed known in
    record {
      present = all_from_has (IsThroughout s plan o.start (signed_end_of s o) true) (signed_action_of s o).present
          (λ x h time low high.
          let n = f.present x (or_left (has a.present x || has a.add x) (has a.dele x) (or_left (has a.present x) (has a.add x) h)) in
          sym (literal_holds b plan time n.0 (there x) apart long n.1)
          ∙ All-contains (HoldsFrom t plan o.start (end_of t o)) (action_of t o).pre n.0 met (((b.fit o).pre.exact n.0).1 (there x, n.1, h)) time low (subst (λ m. time < m) (sym e) high));
      absent = all_from_has (IsThroughout s plan o.start (signed_end_of s o) false) (signed_action_of s o).absent
          (λ x h time low high.
          let n = f.absent x h in
          not_true (signed_holds_at s plan time x)
          (sym (literal_holds b plan time n.0 (missing x) apart long n.1)
          ∙ All-contains (HoldsFrom t plan o.start (end_of t o)) (action_of t o).pre n.0 met (((b.fit o).pre.exact n.0).1 (missing x, n.1, h)) time low (subst (λ m. time < m) (sym e) high)));
    }

need_so : (s : Signed) (plan : List Occ) (o : Occ) (time : ℕ) (l : Literal) → SignedMet s plan o → o.start ≤ time → time < signed_end_of s o
    → needs (signed_action_of s o) l ≡ true → is_so s plan time l ≡ true
need_so s plan o time (there f) met low high h =
    all_has (IsThroughout s plan o.start (signed_end_of s o) true) (signed_action_of s o).present f met.present h time low high
need_so s plan o time (missing f) met low high h =
    not_false (signed_holds_at s plan time f) (all_has (IsThroughout s plan o.start (signed_end_of s o) false) (signed_action_of s o).absent f met.absent h time low high)

to_met : {s : Signed} {literals : List Literal} {t : TaskShape} (b : Beside s literals t) (plan : List Occ) (o : Occ) → SignedApart s plan → TakesTime s plan
    → SignedMet s plan o → IsMet t plan o
to_met {s} {literals} {t} b plan o apart long met = λ k d lt time low high.
    let n : ℕ = slice_index_or (action_of t o).pre k d in
    let w = ((b.fit o).pre.exact (slice_index_or (action_of t o).pre k d)).0 (All-contains_itself (action_of t o).pre k d lt) in
    literal_holds b plan time (slice_index_or (action_of t o).pre k d) w.0 apart long w.1
    ∙ need_so s plan o time w.0 met low (subst (λ m. time < m) (same_end b o) high) w.2

goal_so : (s : Signed) (plan : List Occ) (time : ℕ) (l : Literal)
    → All (λ f. signed_holds_at s plan time f ≡ true) s.goal → All (λ f. signed_holds_at s plan time f ≡ false) s.absent
    → is_goal s l ≡ true → is_so s plan time l ≡ true
goal_so s plan time (there f) p q h = all_has (λ f. signed_holds_at s plan time f ≡ true) s.goal f p h
goal_so s plan time (missing f) p q h = not_false (signed_holds_at s plan time f) (all_has (λ f. signed_holds_at s plan time f ≡ false) s.absent f q h)

to_valid : {s : Signed} {literals : List Literal} {t : TaskShape} → Beside s literals t → (plan : List Occ) → IsValidSigned s plan → IsValid t plan
to_valid {s} {literals} {t} b plan v =
    let none : Occ = record { act = 0; start = 0 } in
    let of_task : IsPlan t plan = plan_back b plan v.of_task in
    let long : TakesTime s plan = takes_time b plan of_task in
    record {
      of_task = of_task;
      apart = λ i j lt within clash. v.apart i j lt within (from_clash b plan i j clash);
      met = λ k d lt. to_met b plan (slice_index_or plan k d) v.apart long (v.met k d lt);
      goal = λ k d lt.
          let w = (b.goal.exact (slice_index_or t.goal k d)).0 (All-contains_itself t.goal k d lt) in
          subst (λ m. holds_at t plan m (slice_index_or t.goal k d) ≡ true) (sym (same_makespan b plan))
          (literal_holds b plan (signed_makespan s plan) (slice_index_or t.goal k d) w.0 v.apart long w.1
          ∙ goal_so s plan (signed_makespan s plan) w.0 v.goal v.absent w.2);
    }

from_valid : {s : Signed} {literals : List Literal} {t : TaskShape} → Beside s literals t → (plan : List Occ) → IsValid t plan → IsValidSigned s plan
from_valid {s} {literals} {t} b plan v =
    let none : Occ = record { act = 0; start = 0 } in
    let of_task : All (IsSignedOccurrence s) plan = same_plan b plan v.of_task in
    let long : TakesTime s plan = takes_time b plan v.of_task in
    let apart : SignedApart s plan = λ i j lt within clash. v.apart i j lt within (to_clash b plan i j (of_task i none (omega arith)) (of_task j none within) clash) in
    let reached : (n : ℕ) → Contains t.goal n → holds_at t plan (signed_makespan s plan) n ≡ true =
    λ n h. subst (λ m. holds_at t plan m n ≡ true) (same_makespan b plan) (All-contains (HoldsThen t plan (makespan t plan)) t.goal n v.goal h) in
    record {
      of_task = of_task;
      apart = apart;
      met = λ k d lt. from_met b plan (slice_index_or plan k d) apart long (of_task k d lt) (v.met k d lt);
      goal = all_from_has (λ f. signed_holds_at s plan (signed_makespan s plan) f ≡ true) s.goal
          (λ f h.
          let n = number_of s literals b.listed (there f) (or_left (has s.init f || has s.goal f) (list_any (λ (a : SignedAction). (has a.present f || has a.add f) || has a.dele f) s.actions) (or_right (has s.init f) (has s.goal f) h)) in
          sym (literal_holds b plan (signed_makespan s plan) n.0 (there f) apart long n.1) ∙ reached n.0 ((b.goal.exact n.0).1 (there f, n.1, h)));
      absent = all_from_has (λ f. signed_holds_at s plan (signed_makespan s plan) f ≡ false) s.absent
          (λ f h.
          let n = number_of s literals b.listed (missing f) (or_left (has s.absent f) (list_any (λ (a : SignedAction). has a.absent f) s.actions) h) in
          not_true (signed_holds_at s plan (signed_makespan s plan) f)
          (sym (literal_holds b plan (signed_makespan s plan) n.0 (missing f) apart long n.1) ∙ reached n.0 ((b.goal.exact n.0).1 (missing f, n.1, h))));
    }

pub compiled_plans : (s : Signed) (literals : List Literal) (t : TaskShape) → InBounds t → IsCompiledBy s literals t → HasSamePlans t s
compiled_plans s literals t bounds c =
    let b : Beside s literals t = beside c bounds in
    record {
      valid = λ plan. (from_valid b plan, to_valid b plan);
      makespan = same_makespan b;
    }

pub same_plans : SamePlans
same_plans d p t s fits bounds g reads =
    subst (HasSamePlans t) (one_reading d p g.reading s fits g.reads reads) (compiled_plans g.reading g.literals t bounds g.compiled)
