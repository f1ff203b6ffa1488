use Rattle.std.proofs.Common.{◌≡◌, ℕ, zero, suc, ◌<◌, ◌≤◌, ◌⊎◌, inl, inr, Bool, true, false, not, ◌&&◌, ◌||◌, List, length, refl, sym, ◌∙◌, arith, Contains}
use Rattle.cpt_task.specs.declared.plan.Occ.{Occ}
use Rattle.cpt_task.specs.Shape.{TaskShape}
use Rattle.cpt_task.specs.Timeline.{action_of, adds_at, deletes_at, end_of, holds_at, is_in, occurrence_at, HoldsThen}
use Rattle.cpt_task.specs.Changes.{last_touch, touched_at}
use Rattle.cpt_task.proofs.Changing.{false_from, holds_touched, holds_untouched, last_le, touched_cases, touched_le}
use Rattle.cpt_task.proofs.Holding.{stays}
use Rattle.cpt_tighten.specs.Needs.{IsAdder}
use Rattle.cpt_tighten.proofs.Places.{adder_at, adds_then, deleter_at, deletes_then}

right_or : (a b : Bool) → b ≡ true → (a || b) ≡ true
right_or true b e = refl
right_or false b e = e

-- an atom that holds although an occurrence that has ended deletes it, was added no earlier than that ended
pub added_since : (t : TaskShape) (plan : List Occ) (p time d : ℕ) → HoldsThen t plan time p → d < length plan → Contains (action_of t (occurrence_at plan d)).dele p
    → 0 < end_of t (occurrence_at plan d) → end_of t (occurrence_at plan d) ≤ time → (k : ℕ) × IsAdder t plan p time k × (end_of t (occurrence_at plan d) ≤ end_of t (occurrence_at plan k))
added_since t plan p time d holds lt has pos le =
    let e = end_of t (occurrence_at plan d) in
    let m = last_touch t plan time p in
    let touched : touched_at t plan e p ≡ true = touched_cases t plan e p ∙ right_or (adds_at t plan e p) (deletes_at t plan e p) (deletes_then t plan d p lt has) in
    let low : e ≤ m = touched_le t plan time p e touched le in
    let high : m ≤ time = last_le t plan time p in
    let a = adder_at t plan m p (sym (holds_touched t plan time p m refl (omega (arith, low, pos))) ∙ holds) in
    let ends : end_of t (occurrence_at plan a.0) ≡ m = a.3 in
    (a.0, record { within = a.1; adds = a.2; ended = omega (arith, ends, high) }, omega (arith, ends, low))

zero_or_more : (m : ℕ) → (m ≡ 0) ⊎ (0 < m)
zero_or_more m = grind arith

-- an atom that holds and that nothing has added holds at first
pub initial : (t : TaskShape) (plan : List Occ) (p time : ℕ) → HoldsThen t plan time p → ((k : ℕ) → IsAdder t plan p time k → ⊥) → is_in p t.init ≡ true
initial t plan p time holds unadded =
    let m = last_touch t plan time p in
    let high : m ≤ time = last_le t plan time p in
    elim (zero_or_more m) [
      | inl z ↦ sym (holds_untouched t plan time p z) ∙ holds
      | inr pos ↦
          let a = adder_at t plan m p (sym (holds_touched t plan time p m refl pos) ∙ holds) in
          let ends : end_of t (occurrence_at plan a.0) ≡ m = a.3 in
          absurd (unadded a.0 (record { within = a.1; adds = a.2; ended = omega (arith, ends, high) }))
    ]

added : (t : TaskShape) (plan : List Occ) (p s : ℕ) → 0 < s → adds_at t plan s p ≡ true → holds_at t plan s p ≡ true
added t plan p zero pos h = absurd (omega (arith, pos))
added t plan p (suc s) pos h = right_or (holds_at t plan s p && not (deletes_at t plan (suc s) p)) (adds_at t plan (suc s) p) h

-- an atom that is added, and deleted no later, holds
pub holds_since : (t : TaskShape) (plan : List Occ) (p time i : ℕ) → IsAdder t plan p time i → 0 < end_of t (occurrence_at plan i)
    → ((d : ℕ) → d < length plan → Contains (action_of t (occurrence_at plan d)).dele p → end_of t (occurrence_at plan d) ≤ time → end_of t (occurrence_at plan d) ≤ end_of t (occurrence_at plan i))
    → HoldsThen t plan time p
holds_since t plan p time i a pos early =
    let e = end_of t (occurrence_at plan i) in
    stays t plan p e time a.ended
    (λ s low high. false_from (deletes_at t plan s p) (λ h.
    let d = deleter_at t plan s p h in
    let ends : end_of t (occurrence_at plan d.0) ≡ s = d.3 in
    let late : end_of t (occurrence_at plan d.0) ≤ e = early d.0 d.1 d.2 (omega (arith, ends, high)) in
    omega (arith, late, ends, low)))
    (added t plan p e pos (adds_then t plan i p a.within a.adds))

-- an atom that holds at first, and is deleted later only, holds
pub holds_still : (t : TaskShape) (plan : List Occ) (p time : ℕ) → is_in p t.init ≡ true
    → ((d : ℕ) → d < length plan → Contains (action_of t (occurrence_at plan d)).dele p → end_of t (occurrence_at plan d) ≤ time → ⊥) → HoldsThen t plan time p
holds_still t plan p time there late =
    stays t plan p 0 time (omega arith)
    (λ s low high. false_from (deletes_at t plan s p) (λ h.
    let d = deleter_at t plan s p h in
    let ends : end_of t (occurrence_at plan d.0) ≡ s = d.3 in
    late d.0 d.1 d.2 (omega (arith, ends, high)))) there
