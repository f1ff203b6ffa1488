use Rattle.std.proofs.Common.{◌≡◌, ℕ, zero, suc, ◌+◌, ◌<◌, ◌⊎◌, inl, inr, Bool, true, false, not, ◌&&◌, ◌||◌, nat_eq, List, length, All, Some, refl, ap, ◌∙◌, subst, arith}
use Rattle.std.specs.Prelude.{slice_get}
use Rattle.std.specs.List.{list_any}
use Rattle.std.proofs.lemmas.Bool.{eqb-true}
use Rattle.std.proofs.lemmas.List.Folds.{Any-from_list_any, list_any-from_Any}
use Rattle.cpt_facts.specs.declared.problem.Fact.{Fact}
use Rattle.cpt_task.specs.declared.plan.Occ.{Occ}
use Rattle.cpt_task.specs.Shape.{TaskShape, IsDuration}
use Rattle.cpt_task.specs.Timeline.{action_of, end_of, is_in, adds_at, deletes_at, holds_at, occurrence_at}
use Rattle.cpt_ground.specs.Compiled.{Literal, there, missing, adds, deletes, is_initial, is_goal, AreNumbers, AreLiterals, IsCompiledAction}
use Rattle.cpt_ground.specs.Signed.{Signed, has, signed_action_of, signed_end_of, signed_adds_at, signed_deletes_at, signed_holds_at, SignedDisturbs, SignedClashes, SignedApart}
use Rattle.cpt_ground.proofs.Facts.{both, any_same, any_weaker, any_place}
use Rattle.cpt_ground.proofs.Numbers.{in_numbers}

-- a ground task beside its reading
pub record Beside (s : Signed) (literals : List Literal) (t : TaskShape) : Type 0 where
  pub listed : AreLiterals s literals
  pub fit : (o : Occ) → IsCompiledAction literals (signed_action_of s o) (action_of t o)
  pub init : AreNumbers literals (is_initial s) t.init
  pub goal : AreNumbers literals (is_goal s) t.goal
  pub size : length t.actions ≡ length s.actions
  pub durations : All (λ a. IsDuration a.dur) t.actions

pub same_end : {s : Signed} {literals : List Literal} {t : TaskShape} → Beside s literals t → (o : Occ) → end_of t o ≡ signed_end_of s o
same_end b o = ap (λ n. o.start + n) (b.fit o).dur

same_adds : {s : Signed} {literals : List Literal} {t : TaskShape} (b : Beside s literals t) (plan : List Occ) (time n : ℕ) (l : Literal)
    → slice_get literals n ≡ Some l
    → adds_at t plan time n ≡ list_any (λ o. nat_eq (signed_end_of s o) time && adds (signed_action_of s o) l) plan
same_adds {s} {literals} {t} b plan time n l e =
    any_same (λ o. nat_eq (end_of t o) time && is_in n (action_of t o).add) (λ o. nat_eq (signed_end_of s o) time && adds (signed_action_of s o) l)
    (λ o. ap (λ m. nat_eq m time && is_in n (action_of t o).add) (same_end b o)
    ∙ ap (λ x. nat_eq (signed_end_of s o) time && x) (in_numbers literals (adds (signed_action_of s o)) (action_of t o).add n l (b.fit o).add e))
    plan

same_deletes : {s : Signed} {literals : List Literal} {t : TaskShape} (b : Beside s literals t) (plan : List Occ) (time n : ℕ) (l : Literal)
    → slice_get literals n ≡ Some l
    → deletes_at t plan time n ≡ list_any (λ o. nat_eq (signed_end_of s o) time && deletes (signed_action_of s o) l) plan
same_deletes {s} {literals} {t} b plan time n l e =
    any_same (λ o. nat_eq (end_of t o) time && is_in n (action_of t o).dele) (λ o. nat_eq (signed_end_of s o) time && deletes (signed_action_of s o) l)
    (λ o. ap (λ m. nat_eq m time && is_in n (action_of t o).dele) (same_end b o)
    ∙ ap (λ x. nat_eq (signed_end_of s o) time && x) (in_numbers literals (deletes (signed_action_of s o)) (action_of t o).dele n l (b.fit o).dele e))
    plan

step_same : (h h' d d' a a' : Bool) → h ≡ h' → d ≡ d' → a ≡ a' → ((h && not d) || a) ≡ ((h' && not d') || a')
step_same h h' d d' a a' p q r =
    ap (λ x. (x && not d) || a) p ∙ ap (λ x. (h' && not x) || a) q ∙ ap (λ x. (h' && not d') || x) r

-- a plain atom holds in the task exactly where it holds in the reading
pub there_holds : {s : Signed} {literals : List Literal} {t : TaskShape} (b : Beside s literals t) (plan : List Occ) (time n : ℕ) (f : Fact)
    → slice_get literals n ≡ Some (there f) → holds_at t plan time n ≡ signed_holds_at s plan time f
there_holds {s} {literals} {t} b plan zero n f e = in_numbers literals (is_initial s) t.init n (there f) b.init e
there_holds {s} {literals} {t} b plan (suc time) n f e =
    step_same (holds_at t plan time n) (signed_holds_at s plan time f)
    (deletes_at t plan (suc time) n) (signed_deletes_at s plan (suc time) f)
    (adds_at t plan (suc time) n) (signed_adds_at s plan (suc time) f)
    (there_holds b plan time n f e) (same_deletes b plan (suc time) n (there f) e) (same_adds b plan (suc time) n (there f) e)

-- some occurrence that ends at that moment deletes the atom and does not add it
unfoldable pub lost_at : Signed → List Occ → ℕ → Fact → Bool
lost_at s plan time f = list_any (λ o. nat_eq (signed_end_of s o) time && (has (signed_action_of s o).dele f && not (has (signed_action_of s o).add f))) plan

missing_step : (h a d m : Bool) → (m ≡ true → d ≡ true) → (d ≡ true → a ≡ false → m ≡ true) → (m ≡ true → a ≡ true → ⊥)
    → ((not h && not a) || m) ≡ not ((h && not d) || a)
missing_step h true d true p q r = absurd (r refl refl)
missing_step true true true false p q r = refl
missing_step true true false false p q r = refl
missing_step false true d false p q r = refl
missing_step true false true true p q r = refl
missing_step true false false true p q r = cc (p refl)
missing_step false false d true p q r = refl
missing_step h false true false p q r = cc (q refl refl)
missing_step true false false false p q r = refl
missing_step false false false false p q r = refl

weaker_step : (e d a : Bool) → (e && (d && not a)) ≡ true → (e && d) ≡ true
weaker_step true true a h = refl
weaker_step true false a h = cc
weaker_step false d a h = cc

alone_step : (e d a : Bool) → (e && d) ≡ true → ((e && a) ≡ true → ⊥) → (e && (d && not a)) ≡ true
alone_step true true true h k = absurd (k refl)
alone_step true true false h k = refl
alone_step true false a h k = cc
alone_step false d a h k = cc

three : (e d a : Bool) → (e && (d && not a)) ≡ true → (e ≡ true) × (d ≡ true) × (a ≡ false)
three true true false h = (refl, refl, refl)
three true true true h = cc
three true false a h = cc
three false d a h = cc

-- two occurrences that end together, where one deletes an atom that the other adds, clash
mixed : (s : Signed) (plan : List Occ) (i j time : ℕ) (f : Fact)
    → 0 < (signed_action_of s (occurrence_at plan i)).dur → 0 < (signed_action_of s (occurrence_at plan j)).dur
    → signed_end_of s (occurrence_at plan i) ≡ time → signed_end_of s (occurrence_at plan j) ≡ time
    → has (signed_action_of s (occurrence_at plan i)).dele f ≡ true → has (signed_action_of s (occurrence_at plan j)).add f ≡ true
    → SignedClashes s plan i j × SignedClashes s plan j i
mixed s plan i j time f long long' e e' h k =
    let first : (occurrence_at plan i).start < signed_end_of s (occurrence_at plan j) = omega arith in
    let second : (occurrence_at plan j).start < signed_end_of s (occurrence_at plan i) = omega arith in
    let disturbs : SignedDisturbs (signed_action_of s (occurrence_at plan i)) (signed_action_of s (occurrence_at plan j)) = inr (inl (f, h, k)) in (
      record { overlap = record { first = first; second = second }; interfere = inl disturbs },
      record { overlap = record { first = second; second = first }; interfere = inr disturbs },
    )

order_cases : (i j : ℕ) → (i < j) ⊎ (i ≡ j) ⊎ (j < i)
order_cases i j = grind arith

-- each occurrence of the plan takes time
abbrev pub TakesTime : Signed → List Occ → Type 0
TakesTime s plan = (k : ℕ) → k < length plan → 0 < (signed_action_of s (occurrence_at plan k)).dur

not_mixed : (s : Signed) (plan : List Occ) (time : ℕ) (f : Fact) → SignedApart s plan → TakesTime s plan
    → lost_at s plan time f ≡ true → signed_adds_at s plan time f ≡ true → ⊥
unfolding lost_at
not_mixed s plan time f apart long lost added =
    let none : Occ = record { act = 0; start = 0 } in
    let x = any_place (λ (o : Occ). nat_eq (signed_end_of s o) time && (has (signed_action_of s o).dele f && not (has (signed_action_of s o).add f))) plan none lost in
    let y = any_place (λ (o : Occ). nat_eq (signed_end_of s o) time && has (signed_action_of s o).add f) plan none added in
    let u = three (nat_eq (signed_end_of s (occurrence_at plan x.0)) time) (has (signed_action_of s (occurrence_at plan x.0)).dele f) (has (signed_action_of s (occurrence_at plan x.0)).add f) x.2 in
    let v = both (nat_eq (signed_end_of s (occurrence_at plan y.0)) time) (has (signed_action_of s (occurrence_at plan y.0)).add f) y.2 in
    let clash = mixed s plan x.0 y.0 time f (long x.0 x.1) (long y.0 y.1) (eqb-true (signed_end_of s (occurrence_at plan x.0)) time u.0) (eqb-true (signed_end_of s (occurrence_at plan y.0)) time v.0) u.1 v.1 in
    elim (order_cases x.0 y.0) [
      | inl lt ↦ apart x.0 y.0 lt y.1 clash.0
      | inr rest ↦ elim rest [
        | inl e ↦
            let here : has (signed_action_of s (occurrence_at plan y.0)).add f ≡ false = subst (λ k. has (signed_action_of s (occurrence_at plan k)).add f ≡ false) e u.2 in
            let also : has (signed_action_of s (occurrence_at plan y.0)).add f ≡ true = v.1 in
            cc (here, also)
        | inr gt ↦ apart y.0 x.0 gt x.1 clash.1
      ]
    ]

lost_deletes : (s : Signed) (plan : List Occ) (time : ℕ) (f : Fact) → lost_at s plan time f ≡ true → signed_deletes_at s plan time f ≡ true
unfolding lost_at
lost_deletes s plan time f h =
    any_weaker (λ (o : Occ). nat_eq (signed_end_of s o) time && (has (signed_action_of s o).dele f && not (has (signed_action_of s o).add f))) (λ (o : Occ). nat_eq (signed_end_of s o) time && has (signed_action_of s o).dele f)
    (λ o k. weaker_step (nat_eq (signed_end_of s o) time) (has (signed_action_of s o).dele f) (has (signed_action_of s o).add f) k)
    plan h

deleted_lost : (s : Signed) (plan : List Occ) (time : ℕ) (f : Fact) → signed_deletes_at s plan time f ≡ true → signed_adds_at s plan time f ≡ false → lost_at s plan time f ≡ true
unfolding lost_at
deleted_lost s plan time f h none =
    let a = Any-from_list_any (λ (o : Occ). nat_eq (signed_end_of s o) time && has (signed_action_of s o).dele f) plan h in
    list_any-from_Any (λ (o : Occ). nat_eq (signed_end_of s o) time && (has (signed_action_of s o).dele f && not (has (signed_action_of s o).add f))) plan (
      a.0,
      a.1,
      a.2,
      a.3,
      alone_step (nat_eq (signed_end_of s a.1) time) (has (signed_action_of s a.1).dele f) (has (signed_action_of s a.1).add f) a.4
          (λ k. let some : signed_adds_at s plan time f ≡ true = list_any-from_Any (λ (o : Occ). nat_eq (signed_end_of s o) time && has (signed_action_of s o).add f) plan (a.0, a.1, a.2, a.3, k) in
          cc (some, none)),
    )

-- a complement holds in the task exactly where its atom does not hold in the reading
pub missing_holds : {s : Signed} {literals : List Literal} {t : TaskShape} (b : Beside s literals t) (plan : List Occ) (time n : ℕ) (f : Fact)
    → SignedApart s plan → TakesTime s plan
    → slice_get literals n ≡ Some (missing f) → holds_at t plan time n ≡ not (signed_holds_at s plan time f)
unfolding lost_at
missing_holds {s} {literals} {t} b plan zero n f apart long e = in_numbers literals (is_initial s) t.init n (missing f) b.init e
missing_holds {s} {literals} {t} b plan (suc time) n f apart long e =
    step_same (holds_at t plan time n) (not (signed_holds_at s plan time f))
    (deletes_at t plan (suc time) n) (signed_adds_at s plan (suc time) f)
    (adds_at t plan (suc time) n) (lost_at s plan (suc time) f)
    (missing_holds b plan time n f apart long e) (same_deletes b plan (suc time) n (missing f) e) (same_adds b plan (suc time) n (missing f) e)
    ∙ missing_step (signed_holds_at s plan time f) (signed_adds_at s plan (suc time) f) (signed_deletes_at s plan (suc time) f) (lost_at s plan (suc time) f)
    (lost_deletes s plan (suc time) f) (deleted_lost s plan (suc time) f) (not_mixed s plan (suc time) f apart long)

-- whether what a literal stands for holds at that moment
abbrev pub is_so : Signed → List Occ → ℕ → Literal → Bool
is_so s plan time (there f) = signed_holds_at s plan time f
is_so s plan time (missing f) = not (signed_holds_at s plan time f)

pub literal_holds : {s : Signed} {literals : List Literal} {t : TaskShape} (b : Beside s literals t) (plan : List Occ) (time n : ℕ) (l : Literal)
    → SignedApart s plan → TakesTime s plan
    → slice_get literals n ≡ Some l → holds_at t plan time n ≡ is_so s plan time l
literal_holds b plan time n (there f) apart long e = there_holds b plan time n f e
literal_holds b plan time n (missing f) apart long e = missing_holds b plan time n f apart long e
