-- first flaws, and sheets without a flaw
use Rattle.std.proofs.Common.{◌≡◌, ◌≢◌, ℕ, ◌<◌, List, [], ◌∷◌, length, true, refl, sym, ap, ◌∙◌, subst, inl, inr, ◌⊎◌, arith}
use Rattle.std.proofs.lemmas.Bool.{cases_Bool, cases_lt, both_ways}
use Rattle.cpt_task.specs.Shape.{TaskShape}
use Rattle.cpt_sheet.specs.declared.data.Cand.{Cand}
use Rattle.cpt_sheet.specs.declared.data.Cand.TheVariants.{Tok, Out}
use Rattle.cpt_sheet.specs.declared.data.Sheet.{Sheet}
use Rattle.cpt_sheet.specs.declared.data.Step.TheVariants.{R1, R2, R3, R4, R5, R6, R7, R8, R9After, R9Ahead, R10, R11After, R11Ahead, R12After, R12Ahead, R13}
use Rattle.cpt_sheet.specs.declared.data.Flaw.{Flaw}
use Rattle.cpt_sheet.specs.declared.data.Flaw.TheVariants.{Threat, OpenNeed, Clash}
use Rattle.cpt_sheet.specs.Live.{IsLive}
use Rattle.cpt_sheet.specs.Roles.{Clash as Interfere}
use Rattle.cpt_sheet.specs.View.{kind_of, has_need, token_at, cands, before}
use Rattle.cpt_calculus.specs.Flaws.{IsChosenBefore, IsPairBefore, HasNoFlaw}
use Rattle.cpt_calculus.specs.Rules.{IsThreatOf, IsToken}
use Rattle.cpt_calculus.proofs.Below.{live_lists}
use Rattle.cpt_calculus.proofs.Reading.{clash_swap, no_need_no_list}
use Rattle.cpt_fresh.specs.Flawless.{ChoiceIsTotal, ChoiceIsOrder, OneFirstFlaw, NoFlawNoFirst, FlawlessIsDecided, DecidedIsFlawless, EachStepInUse, ClosedForAll}

-- numbers
apart_cases : (m n : ℕ) → (m < n) ⊎ ((m ≡ n) ⊎ (n < m))
apart_cases m n = elim (cases_lt m n) [ inl l ↦ inl l | inr g ↦ elim (cases_lt n m) [ inl l ↦ inr (inr l) | inr h ↦ inr (inl (omega arith)) ] ]

pair_cases : (x p y q : ℕ) → IsPairBefore x p y q ⊎ (((x ≡ y) × (p ≡ q)) ⊎ IsPairBefore y q x p)
pair_cases x p y q =
    elim (apart_cases x y) [
      | inl l ↦ inl (inl l)
      | inr k ↦ elim k [
        | inl e ↦ elim (apart_cases p q) [
          | inl l ↦ inl (inr (e, l))
          | inr m ↦ elim m [ inl f ↦ inr (inl (e, f)) | inr l ↦ inr (inr (inr (sym e, l))) ]
        ]
        | inr l ↦ inr (inr (inl l))
      ]
    ]

pub choice_is_total : ChoiceIsTotal
choice_is_total s (Threat x p d) (Threat y q e) =
    elim (pair_cases x p y q) [
      | inl l ↦ inl (inl l)
      | inr k ↦ elim k [
        | inl same ↦ elim (apart_cases d e) [
          | inl l ↦ inl (inr (same.0, same.1, l))
          | inr m ↦ elim m [
            | inl f ↦ inr (inl (ap (λ z. Threat z p d) same.0 ∙ (ap (λ z. Threat y z d) same.1 ∙ ap (λ z. Threat y q z) f)))
            | inr l ↦ inr (inr (inr (sym same.0, sym same.1, l)))
          ]
        ]
        | inr l ↦ inr (inr (inl l))
      ]
    ]
choice_is_total s (Threat x p d) (OpenNeed y q) = inl tt
choice_is_total s (Threat x p d) (Clash y z) = inl tt
choice_is_total s (OpenNeed x p) (Threat y q e) = inr (inr tt)
choice_is_total s (OpenNeed x p) (OpenNeed y q) =
    elim (apart_cases (length (cands s x p)) (length (cands s y q))) [
      | inl l ↦ inl (inl l)
      | inr k ↦ elim k [
        | inl same ↦ elim (pair_cases x p y q) [
          | inl l ↦ inl (inr (same, l))
          | inr m ↦ elim m [
            | inl e ↦ inr (inl (ap (λ z. OpenNeed z p) e.0 ∙ ap (λ z. OpenNeed y z) e.1))
            | inr l ↦ inr (inr (inr (sym same, l)))
          ]
        ]
        | inr l ↦ inr (inr (inl l))
      ]
    ]
choice_is_total s (OpenNeed x p) (Clash y z) = inl tt
choice_is_total s (Clash x y) (Threat z q e) = inr (inr tt)
choice_is_total s (Clash x y) (OpenNeed z q) = inr (inr tt)
choice_is_total s (Clash x y) (Clash z w) =
    elim (pair_cases x y z w) [
      | inl l ↦ inl l
      | inr k ↦ elim k [ inl e ↦ inr (inl (ap (λ v. Clash v y) e.0 ∙ ap (λ v. Clash z v) e.1)) | inr l ↦ inr (inr l) ]
    ]

pair_other : (x p : ℕ) → IsPairBefore x p x p → ⊥
pair_other x p (inl l) = omega arith
pair_other x p (inr h) = let l = h.1 in omega arith

pair_trans : (x p y q z r : ℕ) → IsPairBefore x p y q → IsPairBefore y q z r → IsPairBefore x p z r
pair_trans x p y q z r (inl l) (inl m) = inl (omega arith)
pair_trans x p y q z r (inl l) (inr m) = let e = m.0 in inl (omega arith)
pair_trans x p y q z r (inr l) (inl m) = let e = l.0 in inl (omega arith)
pair_trans x p y q z r (inr l) (inr m) = let a = l.1 in let b = m.1 in inr (l.0 ∙ m.0, omega arith)

chosen_other : (s : Sheet) (f : Flaw) → IsChosenBefore s f f → ⊥
chosen_other s (Threat x p d) (inl l) = pair_other x p l
chosen_other s (Threat x p d) (inr h) = let l = h.2 in omega arith
chosen_other s (OpenNeed x p) (inl l) = omega arith
chosen_other s (OpenNeed x p) (inr h) = pair_other x p h.1
chosen_other s (Clash x y) h = pair_other x y h

threat_trans : (x p d y q e z r g : ℕ) → IsPairBefore x p y q ⊎ ((x ≡ y) × (p ≡ q) × (d < e)) → IsPairBefore y q z r ⊎ ((y ≡ z) × (q ≡ r) × (e < g)) →
    IsPairBefore x p z r ⊎ ((x ≡ z) × (p ≡ r) × (d < g))
threat_trans x p d y q e z r g (inl l) (inl m) = inl (pair_trans x p y q z r l m)
threat_trans x p d y q e z r g (inl l) (inr m) = inl (subst (λ v. IsPairBefore x p v r) m.0 (subst (λ v. IsPairBefore x p y v) m.1 l))
threat_trans x p d y q e z r g (inr l) (inl m) = inl (subst (λ v. IsPairBefore v p z r) (sym l.0) (subst (λ v. IsPairBefore y v z r) (sym l.1) m))
threat_trans x p d y q e z r g (inr l) (inr m) = let a = l.2 in let b = m.2 in inr (l.0 ∙ m.0, l.1 ∙ m.1, omega arith)

need_trans : (a b c x p y q z r : ℕ) → (a < b) ⊎ ((a ≡ b) × IsPairBefore x p y q) → (b < c) ⊎ ((b ≡ c) × IsPairBefore y q z r) → (a < c) ⊎ ((a ≡ c) × IsPairBefore x p z r)
need_trans a b c x p y q z r (inl l) (inl m) = inl (omega arith)
need_trans a b c x p y q z r (inl l) (inr m) = let e = m.0 in inl (omega arith)
need_trans a b c x p y q z r (inr l) (inl m) = let e = l.0 in inl (omega arith)
need_trans a b c x p y q z r (inr l) (inr m) = inr (l.0 ∙ m.0, pair_trans x p y q z r l.1 m.1)

chosen_trans : (s : Sheet) (f g h : Flaw) → IsChosenBefore s f g → IsChosenBefore s g h → IsChosenBefore s f h
chosen_trans s (Threat x p d) (Threat y q e) (Threat z r g) l m = threat_trans x p d y q e z r g l m
chosen_trans s (Threat x p d) g (OpenNeed z r) l m = tt
chosen_trans s (Threat x p d) g (Clash z w) l m = tt
chosen_trans s (Threat x p d) (OpenNeed y q) (Threat z r g) l m = absurd m
chosen_trans s (Threat x p d) (Clash y q) (Threat z r g) l m = absurd m
chosen_trans s (OpenNeed x p) (Threat y q e) h l m = absurd l
chosen_trans s (OpenNeed x p) (OpenNeed y q) (Threat z r g) l m = absurd m
chosen_trans s (OpenNeed x p) (OpenNeed y q) (OpenNeed z r) l m = need_trans (length (cands s x p)) (length (cands s y q)) (length (cands s z r)) x p y q z r l m
chosen_trans s (OpenNeed x p) (OpenNeed y q) (Clash z w) l m = tt
chosen_trans s (OpenNeed x p) (Clash y q) (Threat z r g) l m = absurd m
chosen_trans s (OpenNeed x p) (Clash y q) (OpenNeed z r) l m = absurd m
chosen_trans s (OpenNeed x p) (Clash y q) (Clash z w) l m = tt
chosen_trans s (Clash x y) (Threat z q e) h l m = absurd l
chosen_trans s (Clash x y) (OpenNeed z q) h l m = absurd l
chosen_trans s (Clash x y) (Clash z w) (Threat u r g) l m = absurd m
chosen_trans s (Clash x y) (Clash z w) (OpenNeed u r) l m = absurd m
chosen_trans s (Clash x y) (Clash z w) (Clash u v) l m = pair_trans x y z w u v l m

pub choice_is_order : ChoiceIsOrder
choice_is_order s = record { other = chosen_other s; trans = chosen_trans s }

pub one_first_flaw : OneFirstFlaw
one_first_flaw t s f g h k =
    elim (choice_is_total s f g) [
      | inl l ↦ absurd (k.first f h.stands l)
      | inr m ↦ elim m [ inl e ↦ e | inr l ↦ absurd (h.first g k.stands l) ]
    ]

pub no_flaw_no_first : NoFlawNoFirst
no_flaw_no_first t s f none h = none f h.stands

-- a list that is not empty is one token, or a choice is open
one_or_open : (cs : List Cand) → ((y : ℕ) × IsToken cs y) ⊎ ((y : ℕ) → IsToken cs y → ⊥)
one_or_open [] = inr (λ y e. cc)
one_or_open (Out a ∷ cs) = inr (λ y e. cc)
one_or_open (Tok y ∷ []) = inl (y, refl)
one_or_open (Tok y ∷ c ∷ cs) = inr (λ z e. cc)

module _ (t : TaskShape) (s : Sheet) where
  supplied : IsLive s → HasNoFlaw t s → (x p : ℕ) → has_need s x p ≡ true → (y : ℕ) × IsToken (cands s x p) y
  supplied live none x p n =
      elim (one_or_open (cands s x p)) [
        | inl k ↦ k
        | inr k ↦ absurd (none (OpenNeed x p) (live_lists s live x p n, k))
      ]

  safe : HasNoFlaw t s → (x p d y : ℕ) → IsThreatOf t s x p d y → (before s d y ≡ true) ⊎ (before s x d ≡ true)
  safe none x p d y h =
      elim (cases_Bool (before s d y)) [
        | inl e ↦ inl e
        | inr e ↦ elim (cases_Bool (before s x d)) [
          | inl f ↦ inr f
          | inr f ↦ absurd (none (Threat x p d) (y, h, e, f))
        ]
      ]

  in_order : HasNoFlaw t s → (x y : ℕ) → x < y → Interfere t (kind_of s (Tok x)) (kind_of s (Tok y)) → (before s x y ≡ true) ⊎ (before s y x ≡ true)
  in_order none x y l h =
      elim (cases_Bool (before s x y)) [
        | inl e ↦ inl e
        | inr e ↦ elim (cases_Bool (before s y x)) [
          | inl f ↦ inr f
          | inr f ↦ absurd (none (Clash x y) (record { ordered = l; interfere = h; not_first = e; not_last = f }))
        ]
      ]

  apart : HasNoFlaw t s → (x y : ℕ) → x ≢ y → Interfere t (kind_of s (Tok x)) (kind_of s (Tok y)) → (before s x y ≡ true) ⊎ (before s y x ≡ true)
  apart none x y n h =
      elim (apart_cases x y) [
        | inl l ↦ in_order none x y l h
        | inr k ↦ elim k [
          | inl e ↦ absurd (n e)
          | inr l ↦ elim (in_order none y x l (clash_swap t (kind_of s (Tok x)) (kind_of s (Tok y)) h)) [ inl e ↦ inr e | inr e ↦ inl e ]
        ]
      ]

pub flawless_is_decided : FlawlessIsDecided
flawless_is_decided t s live none = record { supplied = supplied t s live none; safe = safe t s none; apart = apart t s none }

pub decided_is_flawless : DecidedIsFlawless
decided_is_flawless t s h (Threat x p d) k =
    elim (h.safe x p d k.0 k.1) [ inl e ↦ both_ways (before s d k.0) k.2 e | inr e ↦ both_ways (before s x d) k.3 e ]
decided_is_flawless t s h (OpenNeed x p) k =
    elim (cases_Bool (has_need s x p)) [
      | inl e ↦ (let o = h.supplied x p e in k.1 o.0 o.1)
      | inr e ↦ k.0 (no_need_no_list p (token_at s x).lists e)
    ]
decided_is_flawless t s h (Clash x y) k =
    elim (h.apart x y (λ e. let l = k.ordered in omega arith) k.interfere) [ inl e ↦ both_ways (before s x y) k.not_first e | inr e ↦ both_ways (before s y x) k.not_last e ]

pub each_step_in_use : EachStepInUse
each_step_in_use (R1 x y v) = refl
each_step_in_use (R2 x y v) = refl
each_step_in_use (R3 x y) = refl
each_step_in_use (R4 x p v) = refl
each_step_in_use (R5 x p c) = refl
each_step_in_use (R6 x p) = refl
each_step_in_use (R7 x p a) = refl
each_step_in_use (R8 x p c d) = refl
each_step_in_use (R9After x p d) = refl
each_step_in_use (R9Ahead x p d) = refl
each_step_in_use (R10 a p v) = refl
each_step_in_use (R11After x p a v) = refl
each_step_in_use (R11Ahead x p a v) = refl
each_step_in_use (R12After x a v) = refl
each_step_in_use (R12Ahead x a v) = refl
each_step_in_use (R13 x p c q) = refl

pub closed_for_all : ClosedForAll
closed_for_all t b s step closed legal = closed step (each_step_in_use step) legal
