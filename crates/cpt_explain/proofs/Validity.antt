use Rattle.std.proofs.Common.{◌≡◌, ℕ, zero, suc, ◌<◌, ◌≤◌, ◌⊎◌, inl, inr, Bool, true, false, List, [], ◌∷◌, length, get_or, refl, sym, subst, arith, All, Contains}
use Rattle.std.proofs.lemmas.List.Elements.{All-contains, All-nil, Contains-get_or}
use Rattle.cpt_task.specs.declared.plan.Occ.{Occ}
use Rattle.cpt_task.specs.declared.plan.Verdict.{Verdict}
use Rattle.cpt_task.specs.declared.plan.Verdict.TheVariants.{Valid, Overlap, Unmet, GoalMissing}
use Rattle.cpt_task.specs.Shape.{TaskShape}
use Rattle.cpt_task.specs.Timeline.{action_of, end_of, holds_at, makespan, occurrence_at, HoldsFrom, HoldsThen, IsMet, IsPlan, IsValid}
use Rattle.cpt_task.specs.Judging.{IsFirstGap}
use Rattle.cpt_tighten.proofs.Places.{none, read_at}
use Rattle.cpt_explain.specs.Faults.{AreFaults, IsFaultOf}
use Rattle.cpt_explain.specs.Laws.{NoFaultsWhereValid}

decided : (b : Bool) → (b ≡ true) ⊎ (b ≡ false)
decided true = inl refl
decided false = inr refl

cases_le : (a b : ℕ) → (a ≤ b) ⊎ (b < a)
cases_le a b = grind arith

cases_suc : (time n : ℕ) → time < suc n → (time < n) ⊎ (time ≡ n)
cases_suc time n lt = grind arith

-- an atom holds from one moment to another, or there is a first gap
gap_or_not : (t : TaskShape) (plan : List Occ) (from p to : ℕ) → HoldsFrom t plan from to p ⊎ ((time : ℕ) × IsFirstGap t plan from to p time)
gap_or_not t plan from p zero = inl (λ time low high. absurd (omega (arith, high)))
gap_or_not t plan from p (suc n) =
    elim (gap_or_not t plan from p n) [
      | inr g ↦ inr (g.0, record { low = g.1.low; high = (let lt : g.0 < n = g.1.high in omega (arith, lt)); gap = g.1.gap; before = g.1.before })
      | inl holds ↦ elim (cases_le from n) [
        | inr later ↦ inl (λ time low high. absurd (omega (arith, later, low, high)))
        | inl le ↦ elim (decided (holds_at t plan n p)) [
          | inl now ↦ inl (λ time low high. elim (cases_suc time n high) [ inl less ↦ holds time low less | inr same ↦ subst (λ x. holds_at t plan x p ≡ true) (sym same) now ])
          | inr gap ↦ inr (n, record { low = le; high = omega arith; gap = gap; before = holds })
        ]
      ]
    ]

all_of : (P : ℕ → Type 0) (xs : List ℕ) → ((p : ℕ) → Contains xs p → P p) → All P xs
all_of P xs h k d lt = h (get_or xs k d) (Contains-get_or xs k d lt)

each : (P : Occ → Type 0) (plan : List Occ) → ((k : ℕ) → k < length plan → P (occurrence_at plan k)) → All P plan
each P plan h k d lt = subst P (sym (read_at plan k d lt)) (h k lt)

needs_met : (t : TaskShape) (plan : List Occ) (k p : ℕ) → ((v : Verdict) → IsFaultOf t plan v → ⊥) → k < length plan → Contains (action_of t (occurrence_at plan k)).pre p
    → HoldsFrom t plan (occurrence_at plan k).start (end_of t (occurrence_at plan k)) p
needs_met t plan k p never lt has =
    elim (gap_or_not t plan (occurrence_at plan k).start p (end_of t (occurrence_at plan k))) [
      | inl holds ↦ holds
      | inr g ↦ absurd (never (Unmet k p g.0) (record { within = lt; needed = has; first = g.1 }))
    ]

goal_holds : (t : TaskShape) (plan : List Occ) (p : ℕ) → ((v : Verdict) → IsFaultOf t plan v → ⊥) → Contains t.goal p → HoldsThen t plan (makespan t plan) p
goal_holds t plan p never has = elim (decided (holds_at t plan (makespan t plan) p)) [ inl holds ↦ holds | inr gap ↦ absurd (never (GoalMissing p) (has, gap)) ]

valid_without : (t : TaskShape) (plan : List Occ) → IsPlan t plan → ((v : Verdict) → IsFaultOf t plan v → ⊥) → IsValid t plan
valid_without t plan of_task never = record {
  of_task = of_task;
  apart = λ i j lt within clash. never (Overlap i j) (lt, within, clash);
  met = each (IsMet t plan) plan (λ k lt. all_of (HoldsFrom t plan (occurrence_at plan k).start (end_of t (occurrence_at plan k))) (action_of t (occurrence_at plan k)).pre (λ p has. needs_met t plan k p never lt has));
  goal = all_of (HoldsThen t plan (makespan t plan)) t.goal (λ p has. goal_holds t plan p never has);
}

-- a valid plan has no fault
faultless : (t : TaskShape) (plan : List Occ) (v : Verdict) → IsValid t plan → IsFaultOf t plan v → ⊥
faultless t plan (Valid m) valid f = f
faultless t plan (Overlap i j) valid f = valid.apart i j f.0 f.1 f.2
faultless t plan (Unmet i p time) valid f =
    let o = occurrence_at plan i in
    let met : IsMet t plan o = valid.met i none f.within in
    let holds : holds_at t plan time p ≡ true = All-contains (HoldsFrom t plan o.start (end_of t o)) (action_of t o).pre p met f.needed time f.first.low f.first.high in
    let z : ⊥ = cc (holds, f.first.gap) in z
faultless t plan (GoalMissing p) valid f =
    let holds : holds_at t plan (makespan t plan) p ≡ true = All-contains (HoldsThen t plan (makespan t plan)) t.goal p valid.goal f.0 in
    let z : ⊥ = cc (holds, f.1) in z

-- a valid plan's faults are none
pub none_where_valid : (t : TaskShape) (plan : List Occ) → IsValid t plan → AreFaults t plan []
none_where_valid t plan valid = record {
  ordered = λ i j d lt none. absurd (omega (arith, none));
  only = All-nil (IsFaultOf t plan);
  whole = λ v f. absurd (faultless t plan v valid f);
}

never_in : (v : Verdict) → Contains [] v → ⊥
never_in v has = let lt : has.0 < 0 = has.1 in omega (arith, lt)

none_listed : (t : TaskShape) (plan : List Occ) (faults : List Verdict) → AreFaults t plan faults → IsValid t plan → faults ≡ []
none_listed t plan [] f valid = refl
none_listed t plan (v ∷ vs) f valid = absurd (faultless t plan v valid (f.only 0 v (omega arith)))

-- a plan has no fault exactly where it is valid
pub no_faults_where_valid : NoFaultsWhereValid
no_faults_where_valid t plan faults of_task f =
    (λ e. valid_without t plan of_task (λ v g. never_in v (subst (λ vs. Contains vs v) e (f.whole v g))), λ valid. none_listed t plan faults f valid)
