use Rattle.std.proofs.Common.{◌≡◌, ℕ, ◌+◌, ◌<◌, inr, unwrap_or, List, [], ◌∷◌, length, get_or, map, All, refl, sym, ap, ◌∙◌, subst, arith}
use Rattle.std.proofs.lemmas.List.{get_or-map, length-map}
use Rattle.std.proofs.lemmas.List.Elements.{All-contains_itself, All-weaker, All-map, All-head, All-tail}
use Rattle.cpt_task.specs.declared.task.Action.{Action}
use Rattle.cpt_task.specs.declared.plan.Occ.{Occ}
use Rattle.cpt_task.specs.Shape.{TaskShape, InBounds}
use Rattle.cpt_task.specs.Interference.{Interferes}
use Rattle.cpt_task.specs.Timeline.{action_of, IsPlan, IsOccurrence, makespan, HoldsThen, HoldsFrom, IsMet, ClashBetween, IsApart, ReachesGoal, IsValid, occurrence_at}
use Rattle.cpt_task.specs.Optimal.{IsOptimal}
use Rattle.cpt_reach.specs.Reached.{IsKeptAction, action_at}
use Rattle.cpt_reach.specs.Kept.{new_number, renumbered, renumbered_action, IsKeptPart}
use Rattle.cpt_reach.specs.Plans.{IsKeptPlan, renumbered_occurrence, renumbered_plan, older_occurrence, older_plan, KeptPartKeepsPlans}
use Rattle.cpt_reach.proofs.Numbering.{renumbered-all, all-renumbered, new_number-at}
use Rattle.cpt_reach.proofs.Reaching.{valid_is_kept}
use Rattle.cpt_reach.proofs.Renaming.{kept_is_covered, interferes_new, interferes_old, place_of_action, action_of-renumbered, end_of-renumbered}
use Rattle.cpt_reach.proofs.Timelines.{makespan-renumbered, holds-renumbered}

-- what holds of each element of a mapped list
all_of_map : {X Y : Type 0} (P : Y → Type 0) (f : X → Y) (xs : List X) → All P (map f xs) → All (λ x. P (f x)) xs
all_of_map P f xs all k d lt = subst P (get_or-map f xs k d (f d) lt) (all k (f d) (rw length-map lt))

-- a clash of two renumbered occurrences is one of the two
clash_old : (old new : TaskShape) (atoms actions : List ℕ) → IsKeptPart old atoms actions new → (o q : Occ) → IsKeptAction old o.act → IsKeptAction old q.act
    → ClashBetween new (renumbered_occurrence actions o) (renumbered_occurrence actions q) → ClashBetween old o q
clash_old old new atoms actions part o q ko kq clash =
    let eo = end_of-renumbered old new atoms actions part o ko in
    let eq = end_of-renumbered old new atoms actions part q kq in
    let ao = action_of-renumbered old new atoms actions part o ko in
    let aq = action_of-renumbered old new atoms actions part q kq in
    let h : Interferes (renumbered_action atoms (action_of old o)) (action_of new (renumbered_occurrence actions q)) = subst (λ a. Interferes a (action_of new (renumbered_occurrence actions q))) ao clash.1 in
    let i : Interferes (renumbered_action atoms (action_of old o)) (renumbered_action atoms (action_of old q)) = subst (λ a. Interferes (renumbered_action atoms (action_of old o)) a) aq h in (
      record { first = subst (λ e. o.start < e) eq clash.0.first; second = subst (λ e. q.start < e) eo clash.0.second },
      interferes_old atoms part.kept_atoms.increasing (action_of old o) (action_of old q) i,
    )

clash_new : (old new : TaskShape) (atoms actions : List ℕ) → IsKeptPart old atoms actions new → (o q : Occ) → IsKeptAction old o.act → IsKeptAction old q.act
    → ClashBetween old o q → ClashBetween new (renumbered_occurrence actions o) (renumbered_occurrence actions q)
clash_new old new atoms actions part o q ko kq clash =
    let eo = end_of-renumbered old new atoms actions part o ko in
    let eq = end_of-renumbered old new atoms actions part q kq in
    let ao = action_of-renumbered old new atoms actions part o ko in
    let aq = action_of-renumbered old new atoms actions part q kq in
    let i : Interferes (renumbered_action atoms (action_of old o)) (renumbered_action atoms (action_of old q)) =
    interferes_new atoms part.kept_atoms.increasing (action_of old o) (action_of old q) (kept_is_covered old atoms part.kept_atoms o.act ko) (kept_is_covered old atoms part.kept_atoms q.act kq) clash.1 in
    let h : Interferes (renumbered_action atoms (action_of old o)) (action_of new (renumbered_occurrence actions q)) = subst (λ a. Interferes (renumbered_action atoms (action_of old o)) a) (sym aq) i in (
      record { first = subst (λ e. o.start < e) (sym eq) clash.0.first; second = subst (λ e. q.start < e) (sym eo) clash.0.second },
      subst (λ a. Interferes a (action_of new (renumbered_occurrence actions q))) (sym ao) h,
    )

nobody : Occ
nobody = record { act = 0; start = 0 }

-- the occurrence at a place of the renumbered plan
occurrence_at-renumbered : (actions : List ℕ) (plan : List Occ) (k : ℕ) → k < length plan → occurrence_at (renumbered_plan actions plan) k ≡ renumbered_occurrence actions (occurrence_at plan k)
unfolding nobody
occurrence_at-renumbered actions plan k lt = get_or-map (renumbered_occurrence actions) plan k nobody nobody lt

apart_new : (old new : TaskShape) (atoms actions : List ℕ) → IsKeptPart old atoms actions new → (plan : List Occ) → IsKeptPlan old plan → IsApart old plan → IsApart new (renumbered_plan actions plan)
unfolding nobody
apart_new old new atoms actions part plan kept apart i j less within clash =
    let j_within : j < length plan = omega (arith, within, length-map plan (renumbered_occurrence actions)) in
    let i_within : i < length plan = omega arith in
    let c = subst (λ o. ClashBetween new o (occurrence_at (renumbered_plan actions plan) j)) (occurrence_at-renumbered actions plan i i_within) clash in
    let d = subst (λ o. ClashBetween new (renumbered_occurrence actions (occurrence_at plan i)) o) (occurrence_at-renumbered actions plan j j_within) c in
    apart i j less j_within (clash_old old new atoms actions part (occurrence_at plan i) (occurrence_at plan j) (kept i nobody i_within) (kept j nobody j_within) d)

apart_old : (old new : TaskShape) (atoms actions : List ℕ) → IsKeptPart old atoms actions new → (plan : List Occ) → IsKeptPlan old plan → IsApart new (renumbered_plan actions plan) → IsApart old plan
unfolding nobody
apart_old old new atoms actions part plan kept apart i j less j_within clash =
    let within : j < length (renumbered_plan actions plan) = omega (arith, j_within, length-map plan (renumbered_occurrence actions)) in
    let i_within : i < length plan = omega arith in
    let d = clash_new old new atoms actions part (occurrence_at plan i) (occurrence_at plan j) (kept i nobody i_within) (kept j nobody j_within) clash in
    let c = subst (λ o. ClashBetween new (renumbered_occurrence actions (occurrence_at plan i)) o) (sym (occurrence_at-renumbered actions plan j j_within)) d in
    apart i j less within (subst (λ o. ClashBetween new o (occurrence_at (renumbered_plan actions plan) j)) (sym (occurrence_at-renumbered actions plan i i_within)) c)

-- the needs of a renumbered occurrence are met where those of the occurrence are
met_new : (old new : TaskShape) (atoms actions : List ℕ) → IsKeptPart old atoms actions new → (plan : List Occ) → IsKeptPlan old plan → (o : Occ) → IsKeptAction old o.act
    → IsMet old plan o → IsMet new (renumbered_plan actions plan) (renumbered_occurrence actions o)
met_new old new atoms actions part plan kept o ko met =
    let A = action_of old o in
    let Q : Action → Type 0 = λ a. All (HoldsFrom new (renumbered_plan actions plan) o.start (o.start + a.dur)) a.pre in
    let h : Q (renumbered_action atoms A) = renumbered-all atoms (HoldsFrom old plan o.start (o.start + A.dur)) (HoldsFrom new (renumbered_plan actions plan) o.start (o.start + A.dur))
    (λ p j holds e time low high. holds-renumbered old new atoms actions part plan kept p j e time ∙ holds time low high) A.pre met in
    subst Q (sym (action_of-renumbered old new atoms actions part o ko)) h

met_old : (old new : TaskShape) (atoms actions : List ℕ) → IsKeptPart old atoms actions new → (plan : List Occ) → IsKeptPlan old plan → (o : Occ) → IsKeptAction old o.act
    → IsMet new (renumbered_plan actions plan) (renumbered_occurrence actions o) → IsMet old plan o
met_old old new atoms actions part plan kept o ko met =
    let A = action_of old o in
    let Q : Action → Type 0 = λ a. All (HoldsFrom new (renumbered_plan actions plan) o.start (o.start + a.dur)) a.pre in
    let h : Q (renumbered_action atoms A) = subst Q (action_of-renumbered old new atoms actions part o ko) met in
    all-renumbered atoms part.kept_atoms.increasing (HoldsFrom old plan o.start (o.start + A.dur)) (HoldsFrom new (renumbered_plan actions plan) o.start (o.start + A.dur))
    (λ p j holds e time low high. sym (holds-renumbered old new atoms actions part plan kept p j e time) ∙ holds time low high) A.pre (kept_is_covered old atoms part.kept_atoms o.act ko).pre h

goal_new : (old new : TaskShape) (atoms actions : List ℕ) → IsKeptPart old atoms actions new → (plan : List Occ) → IsKeptPlan old plan → ReachesGoal old plan → ReachesGoal new (renumbered_plan actions plan)
goal_new old new atoms actions part plan kept reaches =
    let m = makespan old plan in
    let h : All (HoldsThen new (renumbered_plan actions plan) m) (renumbered atoms old.goal) = renumbered-all atoms (HoldsThen old plan m) (HoldsThen new (renumbered_plan actions plan) m)
    (λ p j holds e. holds-renumbered old new atoms actions part plan kept p j e m ∙ holds) old.goal reaches in
    let i = subst (λ xs. All (HoldsThen new (renumbered_plan actions plan) m) xs) (sym part.new_goal) h in
    subst (λ n. All (HoldsThen new (renumbered_plan actions plan) n) new.goal) (sym (makespan-renumbered old new atoms actions part plan kept)) i

goal_old : (old new : TaskShape) (atoms actions : List ℕ) → IsKeptPart old atoms actions new → (plan : List Occ) → IsKeptPlan old plan → ReachesGoal new (renumbered_plan actions plan) → ReachesGoal old plan
goal_old old new atoms actions part plan kept reaches =
    let m = makespan old plan in
    let i = subst (λ n. All (HoldsThen new (renumbered_plan actions plan) n) new.goal) (makespan-renumbered old new atoms actions part plan kept) reaches in
    let h : All (HoldsThen new (renumbered_plan actions plan) m) (renumbered atoms old.goal) = subst (λ xs. All (HoldsThen new (renumbered_plan actions plan) m) xs) part.new_goal i in
    all-renumbered atoms part.kept_atoms.increasing (HoldsThen old plan m) (HoldsThen new (renumbered_plan actions plan) m)
    (λ p j holds e. sym (holds-renumbered old new atoms actions part plan kept p j e m) ∙ holds) old.goal
    (λ k d lt. part.kept_atoms.whole _ (inr (All-contains_itself old.goal k d lt))) h

plan_new : (old new : TaskShape) (atoms actions : List ℕ) → IsKeptPart old atoms actions new → (plan : List Occ) → IsKeptPlan old plan → IsPlan new (renumbered_plan actions plan)
plan_new old new atoms actions part plan kept =
    All-map (IsOccurrence new) (renumbered_occurrence actions) plan (λ k d lt.
    let o = get_or plan k d in
    let found = place_of_action old new atoms actions part o (kept k d lt) in
    let e : unwrap_or (new_number actions o.act) 0 ≡ found.0 = ap (λ n. unwrap_or n 0) found.1 in
    let size : length new.actions ≡ length actions = ap length part.new_actions ∙ length-map actions (λ a. renumbered_action atoms (action_at old a)) in
    omega (arith, e, size, found.2))

-- a plan of kept actions is valid exactly where the renumbered one is
pub valid_new : (old new : TaskShape) (atoms actions : List ℕ) → IsKeptPart old atoms actions new → (plan : List Occ) → IsKeptPlan old plan → IsValid old plan → IsValid new (renumbered_plan actions plan)
valid_new old new atoms actions part plan kept valid = record {
  of_task = plan_new old new atoms actions part plan kept;
  apart = apart_new old new atoms actions part plan kept valid.apart;
  met = All-map (IsMet new (renumbered_plan actions plan)) (renumbered_occurrence actions) plan (λ k d lt. met_new old new atoms actions part plan kept (get_or plan k d) (kept k d lt) (valid.met k d lt));
  goal = goal_new old new atoms actions part plan kept valid.goal;
}

pub valid_old : (old new : TaskShape) (atoms actions : List ℕ) → IsKeptPart old atoms actions new → (plan : List Occ) → IsKeptPlan old plan → IsValid new (renumbered_plan actions plan) → IsValid old plan
valid_old old new atoms actions part plan kept valid =
    let met = all_of_map (IsMet new (renumbered_plan actions plan)) (renumbered_occurrence actions) plan valid.met in
    record {
      of_task = λ k d lt. (kept k d lt).0;
      apart = apart_old old new atoms actions part plan kept valid.apart;
      met = λ k d lt. met_old old new atoms actions part plan kept (get_or plan k d) (kept k d lt) (met k d lt);
      goal = goal_old old new atoms actions part plan kept valid.goal;
    }

back_and_forth : (old new : TaskShape) (atoms actions : List ℕ) → IsKeptPart old atoms actions new → (plan : List Occ) → All (λ o. o.act < length actions) plan → renumbered_plan actions (map (older_occurrence actions) plan) ≡ plan
back_and_forth old new atoms actions part [] all = refl
back_and_forth old new atoms actions part (o ∷ os) all =
    let e : unwrap_or (new_number actions (get_or actions o.act 0)) 0 ≡ o.act =
    ap (λ n. unwrap_or n 0) (new_number-at actions part.kept_actions.increasing o.act (get_or actions o.act 0) (All-head (λ q. q.act < length actions) o os all) refl) in
    let make : ℕ → Occ = λ n. record { act = n; start = o.start } in
    ap (λ n. make n ∷ renumbered_plan actions (map (older_occurrence actions) os)) e
    ∙ ap (λ qs. o ∷ qs) (back_and_forth old new atoms actions part os (All-tail (λ q. q.act < length actions) o os all))

-- each plan of the kept part is the renumbering of one of kept actions
pub onto : (old new : TaskShape) (atoms actions : List ℕ) → IsKeptPart old atoms actions new → (plan : List Occ) → IsPlan new plan → IsKeptPlan old (older_plan actions plan) × (renumbered_plan actions (older_plan actions plan) ≡ plan)
onto old new atoms actions part plan of_new =
    let size : length new.actions ≡ length actions = ap length part.new_actions ∙ length-map actions (λ a. renumbered_action atoms (action_at old a)) in
    let small : All (λ o. o.act < length actions) plan = All-weaker (IsOccurrence new) (λ o. o.act < length actions) (λ o lt. omega (arith, lt, size)) plan of_new in (
      All-map (λ o. IsKeptAction old o.act) (older_occurrence actions) plan (λ k d lt. part.kept_actions.sound _ 0 (small k d lt)),
      back_and_forth old new atoms actions part plan small,
    )

-- a valid plan of the kept part is the renumbering of a valid plan of the same makespan
older_valid : (old new : TaskShape) (atoms actions : List ℕ) → IsKeptPart old atoms actions new → (plan : List Occ) → IsValid new plan → (older : List Occ) × IsValid old older × (makespan new plan ≡ makespan old older)
older_valid old new atoms actions part plan valid =
    let older = older_plan actions plan in
    let back = onto old new atoms actions part plan valid.of_task in
    let valid' : IsValid new (renumbered_plan actions older) = subst (IsValid new) (sym back.1) valid in
    (older, valid_old old new atoms actions part older back.0 valid', ap (makespan new) (sym back.1) ∙ makespan-renumbered old new atoms actions part older back.0)

-- a valid plan's renumbering is valid, with the same makespan
newer_valid : (old new : TaskShape) (atoms actions : List ℕ) → InBounds old → IsKeptPart old atoms actions new → (plan : List Occ) → IsValid old plan → (newer : List Occ) × IsValid new newer × (makespan new newer ≡ makespan old plan)
newer_valid old new atoms actions fine part plan valid =
    let kept = valid_is_kept old fine plan valid in
    (renumbered_plan actions plan, valid_new old new atoms actions part plan kept valid, makespan-renumbered old new atoms actions part plan kept)

optimal_new : (old new : TaskShape) (atoms actions : List ℕ) → InBounds old → IsKeptPart old atoms actions new → (plan : List Occ) → IsOptimal old plan → IsOptimal new (renumbered_plan actions plan)
optimal_new old new atoms actions fine part plan best =
    let kept = valid_is_kept old fine plan best.valid in
    record {
      valid = valid_new old new atoms actions part plan kept best.valid;
      least = λ other valid.
          let back = older_valid old new atoms actions part other valid in
          omega (arith, makespan-renumbered old new atoms actions part plan kept, best.least back.0 back.1, back.2);
    }

optimal_old : (old new : TaskShape) (atoms actions : List ℕ) → InBounds old → IsKeptPart old atoms actions new → (plan : List Occ) → IsKeptPlan old plan → IsOptimal new (renumbered_plan actions plan) → IsOptimal old plan
optimal_old old new atoms actions fine part plan kept best = record {
  valid = valid_old old new atoms actions part plan kept best.valid;
  least = λ other valid.
      let next = newer_valid old new atoms actions fine part other valid in
      omega (arith, makespan-renumbered old new atoms actions part plan kept, best.least next.0 next.1, next.2);
}

-- the kept part of a task has its plans
pub keeps_plans : KeptPartKeepsPlans
keeps_plans old new atoms actions fine part = record {
  valid = λ plan. (λ v. (valid_is_kept old fine plan v, valid_new old new atoms actions part plan (valid_is_kept old fine plan v) v), λ h. valid_old old new atoms actions part plan h.0 h.1);
  same_makespan = λ plan kept. makespan-renumbered old new atoms actions part plan kept;
  onto = λ plan of_new. onto old new atoms actions part plan of_new;
  optimal = λ plan. (λ b. (valid_is_kept old fine plan b.valid, optimal_new old new atoms actions fine part plan b), λ h. optimal_old old new atoms actions fine part plan h.0 h.1);
  refuted = λ bound. (
    λ none plan valid short. let back = older_valid old new atoms actions part plan valid in none back.0 back.1 (omega (arith, short, back.2)),
    λ none plan valid short. let next = newer_valid old new atoms actions fine part plan valid in none next.0 next.1 (omega (arith, short, next.2)),
  );
  no_plan = (
    λ none plan valid. let back = older_valid old new atoms actions part plan valid in none back.0 back.1,
    λ none plan valid. let next = newer_valid old new atoms actions fine part plan valid in none next.0 next.1,
  );
}
