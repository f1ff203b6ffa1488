use Rattle.std.proofs.Common.{◌≡◌, ℕ, ◌<◌, ◌⊎◌, inl, inr, Bool, true, ◌&&◌, nat_eq, List, length, get_or, sym, ap, ◌∙◌, arith, All, Contains, refl, subst, Option, Some, None, MatchOption, false}
use Rattle.std.proofs.lemmas.Bool.Decides.{nat_tests}
use Rattle.std.proofs.lemmas.List.{get_or_default}
use Rattle.std.proofs.lemmas.List.Elements.{All-contains, Contains-get_or}
use Rattle.std.proofs.lemmas.List.Folds.{Any-from_list_any}
use Rattle.cpt_task.specs.declared.plan.Occ.{Occ}
use Rattle.cpt_task.specs.declared.register.Role.TheVariants.{Pre, Add, Dele}
use Rattle.cpt_task.specs.Shape.{TaskShape}
use Rattle.cpt_task.specs.Timeline.{action_of, end_of, is_in, deletes_at, HoldsThen, HoldsFrom, IsApart, IsMet, Clashes, occurrence_at}
use Rattle.cpt_task.specs.Judging.{NoClashUpTo, IsFirstMissingOf, IsFirstNeedOf}
use Rattle.cpt_task.specs.Register.{IsAlone}
use Rattle.cpt_task.proofs.Changing.{false_from}
use Rattle.cpt_task.proofs.Holding.{stays}

-- an occurrence that is alone with each atom that it deletes, needs or adds clashes with none
pub no_clash : (t : TaskShape) (plan : List Occ) (i : ℕ)
    → All (IsAlone t plan Pre i) (action_of t (occurrence_at plan i)).dele → All (IsAlone t plan Add i) (action_of t (occurrence_at plan i)).dele
    → All (IsAlone t plan Dele i) (action_of t (occurrence_at plan i)).pre → All (IsAlone t plan Dele i) (action_of t (occurrence_at plan i)).add
    → NoClashUpTo t plan i (length plan)
no_clash t plan i needed added gone lost k lt before clash =
    let a = action_of t (occurrence_at plan i) in
    elim clash.1 [
      | inl d ↦ elim d [
        | inl h ↦ All-contains (IsAlone t plan Pre i) a.dele h.0 needed h.1 k lt (λ e. omega (arith, e, before)) h.2 clash.0
        | inr h ↦ All-contains (IsAlone t plan Add i) a.dele h.0 added h.1 k lt (λ e. omega (arith, e, before)) h.2 clash.0
      ]
      | inr d ↦ elim d [
        | inl h ↦ All-contains (IsAlone t plan Dele i) a.pre h.0 gone h.2 k lt (λ e. omega (arith, e, before)) h.1 clash.0
        | inr h ↦ All-contains (IsAlone t plan Dele i) a.add h.0 lost h.2 k lt (λ e. omega (arith, e, before)) h.1 clash.0
      ]
    ]

swapped : (t : TaskShape) (plan : List Occ) (i k : ℕ) → Clashes t plan i k → Clashes t plan k i
swapped t plan i k clash = (record { first = clash.0.second; second = clash.0.first }, elim clash.1 [ inl d ↦ inr d | inr d ↦ inl d ])

order_cases : (i k : ℕ) → (k ≡ i → ⊥) → (i < k) ⊎ (k < i)
order_cases i k ne = grind arith

-- in a plan without clashes no two places clash, in either order
pub none_clash : (t : TaskShape) (plan : List Occ) (i k : ℕ) → IsApart t plan → i < length plan → k < length plan → (k ≡ i → ⊥) → Clashes t plan i k → ⊥
none_clash t plan i k apart li lk ne clash = elim (order_cases i k ne) [ inl lt ↦ apart i k lt lk clash | inr gt ↦ apart k i gt li (swapped t plan i k clash) ]

both : (e s : ℕ) (b : Bool) → (nat_eq e s && b) ≡ true → (e ≡ s) × (b ≡ true)
both e s true h = (grind (arith, nat_tests), refl)
both e s false h = absurd (let z : ⊥ = grind (arith, nat_tests) in z)

contains_from : (xs : List ℕ) (p : ℕ) → is_in p xs ≡ true → Contains xs p
contains_from xs p h =
    let a = Any-from_list_any (nat_eq p) xs h in
    let e : a.1 ≡ p = grind (arith, nat_tests, a.4) in
    subst (Contains xs) e (a.0, a.2, a.3)

-- while an occurrence runs, nothing that it needs is deleted
kept : (t : TaskShape) (plan : List Occ) (i p s : ℕ) → IsApart t plan → i < length plan → All (λ o. o.start < end_of t o) plan → Contains (action_of t (occurrence_at plan i)).pre p
    → (occurrence_at plan i).start < s → s < end_of t (occurrence_at plan i) → deletes_at t plan s p ≡ true → ⊥
kept t plan i p s apart lt long has low high deleted =
    let o = occurrence_at plan i in
    let idle : Occ = record { act = 0; start = 0 } in
    let a = Any-from_list_any (λ x. nat_eq (end_of t x) s && is_in p (action_of t x).dele) plan deleted in
    let k = a.0 in
    let same : a.1 ≡ occurrence_at plan k = sym a.3 ∙ get_or_default plan k a.1 idle a.2 in
    let b = both (end_of t a.1) s (is_in p (action_of t a.1).dele) a.4 in
    let end : end_of t (occurrence_at plan k) ≡ s = sym (ap (end_of t) same) ∙ b.0 in
    let gone : is_in p (action_of t (occurrence_at plan k)).dele ≡ true = sym (ap (λ x. is_in p (action_of t x).dele) same) ∙ b.1 in
    let shorter : (occurrence_at plan k).start < end_of t (occurrence_at plan k) = long k idle a.2 in
    none_clash t plan i k apart lt a.2 (λ e. let z : end_of t o ≡ s = ap (λ x. end_of t (occurrence_at plan x)) (sym e) ∙ end in omega (arith, z, high))
    (record { first = omega (arith, end, low); second = omega (arith, end, shorter, high) }, inr (inl (p, contains_from (action_of t (occurrence_at plan k)).dele p gone, has)))

-- a need that is met at the start is met to the end
pub needed_throughout : (t : TaskShape) (plan : List Occ) (i p : ℕ) → IsApart t plan → i < length plan → All (λ o. o.start < end_of t o) plan → Contains (action_of t (occurrence_at plan i)).pre p
    → HoldsThen t plan (occurrence_at plan i).start p → HoldsFrom t plan (occurrence_at plan i).start (end_of t (occurrence_at plan i)) p
needed_throughout t plan i p apart lt long has now time low high =
    stays t plan p (occurrence_at plan i).start time low (λ s from to. false_from (deletes_at t plan s p) (λ h. kept t plan i p s apart lt long has from (omega arith) h)) now

pub met_from_start : (t : TaskShape) (plan : List Occ) (i : ℕ) → IsApart t plan → i < length plan → All (λ o. o.start < end_of t o) plan
    → All (HoldsThen t plan (occurrence_at plan i).start) (action_of t (occurrence_at plan i)).pre → IsMet t plan (occurrence_at plan i)
met_from_start t plan i apart lt long all k d within =
    needed_throughout t plan i (get_or (action_of t (occurrence_at plan i)).pre k d) apart lt long (Contains-get_or (action_of t (occurrence_at plan i)).pre k d within) (all k d within)

pub need_from_start : (t : TaskShape) (plan : List Occ) (i p : ℕ) → IsApart t plan → i < length plan → All (λ o. o.start < end_of t o) plan
    → IsFirstMissingOf t plan (action_of t (occurrence_at plan i)).pre (occurrence_at plan i).start p
    → IsFirstNeedOf t plan (action_of t (occurrence_at plan i)).pre (occurrence_at plan i).start (end_of t (occurrence_at plan i)) p (occurrence_at plan i).start
need_from_start t plan i p apart lt long lack = record {
  needed = lack.wanted;
  gap = record { low = omega arith; high = long i (record { act = 0; start = 0 }) lt; gap = lack.missing; before = λ s low high. absurd (omega (arith, low, high)) };
  before = λ q has less. needed_throughout t plan i q apart lt long has (lack.before q has less);
}

-- what is told of an answer, one by one
pub told : {P R : Type 0} {Q S : ℕ → Type 0} (r : Option ℕ) → (P → R) → ((p : ℕ) → Q p → S p) → MatchOption r P Q → MatchOption r R S
told None f g h = f h
told (Some p) f g h = g p h
