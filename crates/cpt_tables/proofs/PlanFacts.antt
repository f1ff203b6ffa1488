-- facts of valid plans
use Rattle.std.proofs.Common.{◌≡◌, ◌≢◌, ℕ, zero, suc, ◌<◌, ◌≤◌, ◌⊎◌, inl, inr, true, false, not, ◌&&◌, nat_eq, List, length, get_or, Contains, refl, sym, ap, subst, ◌∙◌, arith}
use Rattle.std.proofs.lemmas.Bool.{cases_Bool, cases_lt, or_cases, or_right, and_parts, and_from, not-true, both_ways, eqb-true, eq-eqb}
use Rattle.std.proofs.lemmas.List.{get_or_default}
use Rattle.std.proofs.lemmas.List.Folds.{Any-from_list_any, list_any_at}
use Rattle.std.proofs.lemmas.List.Elements.{All-contains}
use Rattle.cpt_task.specs.declared.plan.Occ.{Occ}
use Rattle.cpt_task.specs.Shape.{TaskShape, InBounds, IsDuration}
use Rattle.cpt_task.specs.Interference.{Interferes}
use Rattle.cpt_task.specs.Timeline.{idle, action_of, end_of, is_in, adds_at, deletes_at, holds_at, HoldsFrom, IsValid, occurrence_at}
use Rattle.cpt_tables.proofs.TaskLemmas.{nth_contained}

pub contains_from_in : (xs : List ℕ) (p : ℕ) → is_in p xs ≡ true → Contains xs p
contains_from_in xs p h =
    let a = Any-from_list_any (nat_eq p) xs h in
    subst (Contains xs) (sym (eqb-true p a.1 a.4)) (a.0, a.2, a.3)

pub in_from_contains : (xs : List ℕ) (p : ℕ) → Contains xs p → is_in p xs ≡ true
in_from_contains xs p has = list_any_at (nat_eq p) xs has.0 p has.1 (eq-eqb p (get_or xs has.0 p) (sym has.2))

pub contains_cases : (xs : List ℕ) (p : ℕ) → Contains xs p ⊎ (Contains xs p → ⊥)
contains_cases xs p = elim (cases_Bool (is_in p xs)) [
  | inl e ↦ inl (contains_from_in xs p e)
  | inr e ↦ inr (λ has. both_ways (is_in p xs) e (in_from_contains xs p has))
]

-- the occurrence at a place adds the atom when it ends
pub record AddsAt (t : TaskShape) (plan : List Occ) (i p time : ℕ) : Type 0 where
  pub within : i < length plan
  pub ends : end_of t (occurrence_at plan i) ≡ time
  pub adds : Contains (action_of t (occurrence_at plan i)).add p

pub added_by : (t : TaskShape) (plan : List Occ) (time p : ℕ) → adds_at t plan time p ≡ true → (i : ℕ) × AddsAt t plan i p time
added_by t plan time p h =
    let a = Any-from_list_any (λ o. nat_eq (end_of t o) time && is_in p (action_of t o).add) plan h in
    let parts = and_parts (nat_eq (end_of t a.1) time) (is_in p (action_of t a.1).add) a.4 in
    let same : occurrence_at plan a.0 ≡ a.1 = get_or_default plan a.0 (record { act = 0; start = 0 }) a.1 a.2 ∙ a.3 in (
      a.0,
      record {
        within = a.2;
        ends = ap (end_of t) same ∙ eqb-true (end_of t a.1) time parts.0;
        adds = subst (λ (o : Occ). Contains (action_of t o).add p) (sym same) (contains_from_in (action_of t a.1).add p parts.1);
      },
    )

pub adds_from : (t : TaskShape) (plan : List Occ) (i p : ℕ) → i < length plan → Contains (action_of t (occurrence_at plan i)).add p → adds_at t plan (end_of t (occurrence_at plan i)) p ≡ true
adds_from t plan i p lt has =
    list_any_at (λ o. nat_eq (end_of t o) (end_of t (occurrence_at plan i)) && is_in p (action_of t o).add) plan i (record { act = 0; start = 0 }) lt
    (and_from (nat_eq (end_of t (occurrence_at plan i)) (end_of t (occurrence_at plan i))) (is_in p (action_of t (occurrence_at plan i)).add) (eq-eqb (end_of t (occurrence_at plan i)) (end_of t (occurrence_at plan i)) refl) (in_from_contains (action_of t (occurrence_at plan i)).add p has))

pub deletes_from : (t : TaskShape) (plan : List Occ) (i p : ℕ) → i < length plan → Contains (action_of t (occurrence_at plan i)).dele p → deletes_at t plan (end_of t (occurrence_at plan i)) p ≡ true
deletes_from t plan i p lt has =
    list_any_at (λ o. nat_eq (end_of t o) (end_of t (occurrence_at plan i)) && is_in p (action_of t o).dele) plan i (record { act = 0; start = 0 }) lt
    (and_from (nat_eq (end_of t (occurrence_at plan i)) (end_of t (occurrence_at plan i))) (is_in p (action_of t (occurrence_at plan i)).dele) (eq-eqb (end_of t (occurrence_at plan i)) (end_of t (occurrence_at plan i)) refl) (in_from_contains (action_of t (occurrence_at plan i)).dele p has))

-- what is added at a later moment than 0 holds then
pub holds_from_add : (t : TaskShape) (plan : List Occ) (time p : ℕ) → 0 < time → adds_at t plan time p ≡ true → holds_at t plan time p ≡ true
holds_from_add t plan zero p pos h = absurd (omega arith)
holds_from_add t plan (suc s) p pos h = or_right (holds_at t plan s p && not (deletes_at t plan (suc s) p)) (adds_at t plan (suc s) p) h

-- of what holds: it is added now, or it held before and is neither added nor deleted now
pub hold_cases : (t : TaskShape) (plan : List Occ) (s p : ℕ) → holds_at t plan (suc s) p ≡ true →
    (adds_at t plan (suc s) p ≡ true) ⊎ ((holds_at t plan s p ≡ true) × (deletes_at t plan (suc s) p ≡ false) × (adds_at t plan (suc s) p ≡ false))
hold_cases t plan s p h = go (cases_Bool (adds_at t plan (suc s) p)) (or_cases (holds_at t plan s p && not (deletes_at t plan (suc s) p)) (adds_at t plan (suc s) p) h)
  where
    go : ((adds_at t plan (suc s) p ≡ true) ⊎ (adds_at t plan (suc s) p ≡ false)) → (((holds_at t plan s p && not (deletes_at t plan (suc s) p)) ≡ true) ⊎ (adds_at t plan (suc s) p ≡ true)) →
        (adds_at t plan (suc s) p ≡ true) ⊎ ((holds_at t plan s p ≡ true) × (deletes_at t plan (suc s) p ≡ false) × (adds_at t plan (suc s) p ≡ false))
    go (inl e) _ = inl e
    go (inr e) (inr a) = absurd (both_ways (adds_at t plan (suc s) p) e a)
    go (inr e) (inl k) =
        let parts = and_parts (holds_at t plan s p) (not (deletes_at t plan (suc s) p)) k in
        inr (parts.0, not-true (deletes_at t plan (suc s) p) parts.1, e)

-- the atom is not touched at that moment
abbrev pub IsQuiet : TaskShape → List Occ → ℕ → ℕ → Type 0
IsQuiet t plan p time = (deletes_at t plan time p ≡ false) × (adds_at t plan time p ≡ false)

-- added after the first moment and up to the second
abbrev pub IsAddedSince : TaskShape → List Occ → ℕ → ℕ → ℕ → Type 0
IsAddedSince t plan p s m = (e : ℕ) × (s < e) × (e ≤ m) × (adds_at t plan e p ≡ true)

-- held at the first moment and not touched up to the second
abbrev pub IsKeptSince : TaskShape → List Occ → ℕ → ℕ → ℕ → Type 0
IsKeptSince t plan p s m = (holds_at t plan s p ≡ true) × ((e : ℕ) → s < e → e ≤ m → IsQuiet t plan p e)

split_at : (s m : ℕ) → s ≤ suc m → (s ≤ m) ⊎ (s ≡ suc m)
split_at s m h = grind arith

-- what holds was added since an earlier moment, or has held since then
pub since : (t : TaskShape) (plan : List Occ) (p s m : ℕ) → s ≤ m → holds_at t plan m p ≡ true → IsAddedSince t plan p s m ⊎ IsKeptSince t plan p s m
since t plan p s zero le h = let e : s ≡ 0 = omega arith in inr (subst (λ n. holds_at t plan n p ≡ true) (sym e) h, λ r low high. absurd (omega arith))
since t plan p s (suc m) le h =
    elim (split_at s m le) [
      | inr e ↦ inr (subst (λ n. holds_at t plan n p ≡ true) (sym e) h, λ r low high. absurd (omega (arith, e, low, high)))
      | inl earlier ↦ elim (hold_cases t plan m p h) [
        | inl added ↦ inl (suc m, (omega (arith, earlier)), (omega arith), added)
        | inr kept ↦ elim (since t plan p s m earlier kept.0) [
          | inl a ↦ let high : a.0 ≤ m = a.2 in inl (a.0, a.1, (omega (arith, high)), a.3)
          | inr k ↦ inr (k.0, λ r low high. elim (split_at r m high) [ inl before ↦ k.1 r low before | inr e ↦ subst (IsQuiet t plan p) (sym e) (kept.1, kept.2) ])
        ]
      ]
    ]

-- an action of an occurrence of the plan
pub of_plan : (t : TaskShape) (plan : List Occ) (i : ℕ) → IsValid t plan → i < length plan → Contains t.actions (action_of t (occurrence_at plan i))
of_plan t plan i valid lt = nth_contained t (occurrence_at plan i).act (valid.of_task i (record { act = 0; start = 0 }) lt)

pub lasts : (t : TaskShape) (plan : List Occ) (i : ℕ) → InBounds t → IsValid t plan → i < length plan → IsDuration (action_of t (occurrence_at plan i)).dur
lasts t plan i b valid lt = b.durations (occurrence_at plan i).act idle (valid.of_task i (record { act = 0; start = 0 }) lt)

pub adds_in_range : (t : TaskShape) (plan : List Occ) (i p : ℕ) → InBounds t → IsValid t plan → i < length plan → Contains (action_of t (occurrence_at plan i)).add p → p < length t.atoms
adds_in_range t plan i p b valid lt has =
    All-contains (λ r. r < length t.atoms) (action_of t (occurrence_at plan i)).add p (b.actions (occurrence_at plan i).act idle (valid.of_task i (record { act = 0; start = 0 }) lt)).add has

-- what an occurrence needs holds while it runs
pub needs_hold : (t : TaskShape) (plan : List Occ) (i r s : ℕ) → IsValid t plan → i < length plan → Contains (action_of t (occurrence_at plan i)).pre r → (occurrence_at plan i).start ≤ s → s < end_of t (occurrence_at plan i) → holds_at t plan s r ≡ true
needs_hold t plan i r s valid lt has low high =
    All-contains (HoldsFrom t plan (occurrence_at plan i).start (end_of t (occurrence_at plan i))) (action_of t (occurrence_at plan i)).pre r (valid.met i (record { act = 0; start = 0 }) lt) has s low high

-- two occurrences that overlap do not interfere
pub no_clash : (t : TaskShape) (plan : List Occ) (i j : ℕ) → IsValid t plan → i < length plan → j < length plan → i ≢ j → (occurrence_at plan i).start < end_of t (occurrence_at plan j) → (occurrence_at plan j).start < end_of t (occurrence_at plan i) →
    Interferes (action_of t (occurrence_at plan i)) (action_of t (occurrence_at plan j)) → ⊥
no_clash t plan i j valid li lj ne first second inter = elim (cases_lt i j) [
  | inl lt ↦ valid.apart i j lt lj (record { first = first; second = second }, inter)
  | inr le ↦ valid.apart j i (omega (arith, le, ne)) li (record { first = second; second = first }, elim inter [ inl a ↦ inr a | inr a ↦ inl a ])
]

-- what holds is an atom
pub holds_in_range : (t : TaskShape) (plan : List Occ) (time p : ℕ) → InBounds t → IsValid t plan → holds_at t plan time p ≡ true → p < length t.atoms
holds_in_range t plan zero p b valid h = All-contains (λ r. r < length t.atoms) t.init p b.init (contains_from_in t.init p h)
holds_in_range t plan (suc s) p b valid h = elim (hold_cases t plan s p h) [
  | inl added ↦ let by = added_by t plan (suc s) p added in adds_in_range t plan by.0 p b valid by.1.within by.1.adds
  | inr kept ↦ holds_in_range t plan s p b valid kept.0
]
