use Rattle.std.proofs.Common.{◌≡◌, ℕ, zero, suc, ◌+◌, ◌-◌, ◌<◌, ◌≤◌, ◌⊎◌, inl, inr, Bool, true, false, not, ◌&&◌, ◌||◌, List, length, refl, sym, subst, arith, add-suc, add-zero}
use Rattle.cpt_task.specs.declared.plan.Occ.{Occ}
use Rattle.cpt_task.specs.Shape.{TaskShape}
use Rattle.cpt_task.specs.Timeline.{action_of, adds_at, deletes_at, end_of, holds_at, is_in, occurrence_at, HoldsFrom, HoldsThen}
use Rattle.cpt_task.specs.Judging.{IsFirstGap}
use Rattle.cpt_tighten.proofs.Places.{deleter_at, deletes_then, in_from, in_to}
use Rattle.cpt_explain.specs.Losses.{is_lost, IsFirstLoss}

lost_parts : (d a : Bool) → (d && not a) ≡ true → (d ≡ true) × (a ≡ false)
lost_parts true false e = (refl, refl)
lost_parts true true e = absurd (let z : ⊥ = cc e in z)
lost_parts false a e = absurd (let z : ⊥ = cc e in z)

kept_parts : (d a : Bool) → (d && not a) ≡ false → d ≡ true → a ≡ true
kept_parts true true e f = refl
kept_parts true false e f = absurd (let z : ⊥ = cc e in z)
kept_parts false a e f = absurd (let z : ⊥ = cc f in z)

cases : (i k : ℕ) → i < k + 1 → (i < k) ⊎ (i ≡ k)
cases i k lt = grind arith

-- before any occurrence
pub no_loss : (t : TaskShape) (plan : List Occ) (from to p : ℕ) → from < to → IsFirstLoss t plan from to p 0 to
no_loss t plan from to p lt = record {
  low = lt;
  high = omega arith;
  lost = λ less. absurd (omega (arith, less));
  kept = λ i none low high. absurd (omega (arith, none));
}

-- one more occurrence loses the atom sooner
pub sooner : (t : TaskShape) (plan : List Occ) (from to p k first : ℕ) → k < length plan → IsFirstLoss t plan from to p k first → from < end_of t (occurrence_at plan k) → end_of t (occurrence_at plan k) < first
    → is_lost t plan (occurrence_at plan k) p ≡ true → IsFirstLoss t plan from to p (k + 1) (end_of t (occurrence_at plan k))
sooner t plan from to p k first within h low less lost =
    let o = occurrence_at plan k in
    let parts = lost_parts (is_in p (action_of t o).dele) (adds_at t plan (end_of t o) p) lost in
    let high : first ≤ to = h.high in
    record {
      low = low;
      high = omega (arith, less, high);
      lost = λ _. (deletes_then t plan k p within (in_from (action_of t o).dele p parts.0), parts.1);
      kept = λ i lt after before. elim (cases i k lt) [
        | inl earlier ↦ h.kept i earlier after (omega (arith, before, less))
        | inr same ↦ absurd (let z : end_of t (occurrence_at plan k) < end_of t o = subst (λ x. end_of t (occurrence_at plan x) < end_of t o) same before in omega (arith, z))
      ];
    }

-- one more occurrence does not
pub no_sooner : (t : TaskShape) (plan : List Occ) (from to p k first : ℕ) → IsFirstLoss t plan from to p k first
    → (from < end_of t (occurrence_at plan k) → end_of t (occurrence_at plan k) < first → is_lost t plan (occurrence_at plan k) p ≡ false) → IsFirstLoss t plan from to p (k + 1) first
no_sooner t plan from to p k first h here = record {
  low = h.low;
  high = h.high;
  lost = h.lost;
  kept = λ i lt after before. elim (cases i k lt) [
    | inl earlier ↦ h.kept i earlier after before
    | inr same ↦ subst (λ x. is_lost t plan (occurrence_at plan x) p ≡ false) (sym same)
        (here (subst (λ x. from < end_of t (occurrence_at plan x)) same after) (subst (λ x. end_of t (occurrence_at plan x) < first) same before))
  ];
}

step : (h d a : Bool) → h ≡ true → (d ≡ true → a ≡ true) → ((h && not d) || a) ≡ true
step true true a e f = f refl
step true false a e f = refl
step false d a e f = absurd (let z : ⊥ = cc e in z)

gone : (h d a : Bool) → d ≡ true → a ≡ false → ((h && not d) || a) ≡ false
gone true true false e f = refl
gone false true false e f = refl
gone h false a e f = absurd (let z : ⊥ = cc e in z)
gone h true true e f = absurd (let z : ⊥ = cc f in z)

-- whoever deletes the atom before the loss, some add it again
added_again : (t : TaskShape) (plan : List Occ) (from to p first s : ℕ) → IsFirstLoss t plan from to p (length plan) first → from < s → s < first → deletes_at t plan s p ≡ true → adds_at t plan s p ≡ true
added_again t plan from to p first s h low high deleted =
    let d = deleter_at t plan s p deleted in
    let o = occurrence_at plan d.0 in
    let ends : end_of t o ≡ s = d.3 in
    let kept : is_lost t plan o p ≡ false = h.kept d.0 d.1 (omega (arith, ends, low)) (omega (arith, ends, high)) in
    subst (λ x. adds_at t plan x p ≡ true) ends (kept_parts (is_in p (action_of t o).dele) (adds_at t plan (end_of t o) p) kept (in_to (action_of t o).dele p d.2))

-- until then it holds
holds_for : (t : TaskShape) (plan : List Occ) (from to p first k : ℕ) → IsFirstLoss t plan from to p (length plan) first → HoldsThen t plan from p → from + k < first → HoldsThen t plan (from + k) p
holds_for t plan from to p first zero h now lt = rw add-zero now
holds_for t plan from to p first (suc k) h now lt =
    let before : holds_at t plan (from + k) p ≡ true = holds_for t plan from to p first k h now (omega (arith, lt)) in
    rw add-suc (step (holds_at t plan (from + k) p) (deletes_at t plan (suc (from + k)) p) (adds_at t plan (suc (from + k)) p) before
    (λ deleted. added_again t plan from to p first (suc (from + k)) h (omega arith) (omega (arith, lt)) deleted))

pub holds_until : (t : TaskShape) (plan : List Occ) (from to p first : ℕ) → IsFirstLoss t plan from to p (length plan) first → HoldsThen t plan from p → HoldsFrom t plan from first p
holds_until t plan from to p first h now time low high =
    let e : from + (time - from) ≡ time = omega arith in
    subst (λ s. HoldsThen t plan s p) e (holds_for t plan from to p first (time - from) h now (omega (arith, e, high)))

lost_at : (t : TaskShape) (plan : List Occ) (p s : ℕ) → 0 < s → deletes_at t plan s p ≡ true → adds_at t plan s p ≡ false → holds_at t plan s p ≡ false
lost_at t plan p zero pos d a = absurd (omega (arith, pos))
lost_at t plan p (suc s) pos d a = gone (holds_at t plan s p) (deletes_at t plan (suc s) p) (adds_at t plan (suc s) p) d a

-- the loss is the first gap
pub gap_at_loss : (t : TaskShape) (plan : List Occ) (from to p first : ℕ) → IsFirstLoss t plan from to p (length plan) first → HoldsThen t plan from p → first < to → IsFirstGap t plan from to p first
gap_at_loss t plan from to p first h now less =
    let low : from < first = h.low in
    record {
      low = omega (arith, low);
      high = less;
      gap = lost_at t plan p first (omega (arith, low)) (h.lost less).0 (h.lost less).1;
      before = holds_until t plan from to p first h now;
    }

-- no loss before the end
pub no_gap : (t : TaskShape) (plan : List Occ) (from to p first : ℕ) → IsFirstLoss t plan from to p (length plan) first → HoldsThen t plan from p → to ≤ first → HoldsFrom t plan from to p
no_gap t plan from to p first h now le time low high = holds_until t plan from to p first h now time low (omega (arith, high, le))

-- a gap at the first moment
pub gap_at_first : (t : TaskShape) (plan : List Occ) (from to p : ℕ) → from < to → holds_at t plan from p ≡ false → IsFirstGap t plan from to p from
gap_at_first t plan from to p lt gap = record { low = omega arith; high = lt; gap = gap; before = λ time low high. absurd (omega (arith, low, high)) }
