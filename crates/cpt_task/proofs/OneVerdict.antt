use Rattle.std.proofs.Common.{◌≡◌, ℕ, ◌<◌, true, List, sym, ap, ◌∙◌, subst, arith}
use Rattle.std.proofs.lemmas.List.Elements.{All-contains}
use Rattle.cpt_task.specs.declared.plan.Occ.{Occ}
use Rattle.cpt_task.specs.declared.plan.Verdict.{Verdict}
use Rattle.cpt_task.specs.declared.plan.Verdict.TheVariants.{Valid, Overlap, Unmet, GoalMissing}
use Rattle.cpt_task.specs.Shape.{TaskShape}
use Rattle.cpt_task.specs.Timeline.{IsApart, IsMet, makespan, occurrence_at, HoldsFrom, action_of, end_of, holds_at}
use Rattle.cpt_task.specs.Judging.{Judges, IsFirstClash, IsFirstClashOf, IsFirstNeed, IsFirstNeedOf, IsFirstGap, IsFirstUnmet, IsFirstMissingOf}
use Rattle.cpt_task.proofs.Exact.{refuted}

-- two numbers of which neither is below the other are one
same_place : (i k : ℕ) → (i < k → ⊥) → (k < i → ⊥) → i ≡ k
same_place i k not_less not_greater = grind arith

clash_no_later : (t : TaskShape) (plan : List Occ) (i j k l : ℕ) → IsFirstClash t plan i j → IsFirstClash t plan k l → i < k → ⊥
clash_no_later t plan i j k l a b lt = b.first i lt j a.second.within a.second.ordered a.second.clash

second_no_later : (t : TaskShape) (plan : List Occ) (i j l : ℕ) → IsFirstClashOf t plan i j → IsFirstClashOf t plan i l → j < l → ⊥
second_no_later t plan i j l a b lt = b.none_before j lt a.ordered a.clash

one_clash : (t : TaskShape) (plan : List Occ) (i j k l : ℕ) → IsFirstClash t plan i j → IsFirstClash t plan k l → Overlap i j ≡ Overlap k l
one_clash t plan i j k l a b =
    let e : i ≡ k = same_place i k (clash_no_later t plan i j k l a b) (clash_no_later t plan k l i j b a) in
    let moved : IsFirstClash t plan i l = subst (λ x. IsFirstClash t plan x l) (sym e) b in
    let f : j ≡ l = same_place j l (second_no_later t plan i j l a.second moved.second) (second_no_later t plan i l j moved.second a.second) in
    cc

not_apart : (t : TaskShape) (plan : List Occ) (i j : ℕ) → IsFirstClash t plan i j → IsApart t plan → ⊥
not_apart t plan i j a apart = apart i j a.second.ordered a.second.within a.second.clash

gap_breaks : (t : TaskShape) (plan : List Occ) (from to p time : ℕ) → IsFirstGap t plan from to p time → HoldsFrom t plan from to p → ⊥
gap_breaks t plan from to p time gap holds = let h : holds_at t plan time p ≡ true = holds time gap.low gap.high in let z : ⊥ = cc (h, gap.gap) in z

not_met : (t : TaskShape) (plan : List Occ) (o : Occ) (p time : ℕ) → IsFirstNeed t plan o p time → IsMet t plan o → ⊥
not_met t plan o p time need met = gap_breaks t plan o.start (end_of t o) p time need.gap (All-contains (HoldsFrom t plan o.start (end_of t o)) (action_of t o).pre p met need.needed)

unmet_no_later : (t : TaskShape) (plan : List Occ) (i p time k q s : ℕ) → IsFirstUnmet t plan i p time → IsFirstUnmet t plan k q s → i < k → ⊥
unmet_no_later t plan i p time k q s a b lt = not_met t plan (occurrence_at plan i) p time a.need (b.before i lt)

need_no_later : (t : TaskShape) (plan : List Occ) (pre : List ℕ) (from to p time q s : ℕ) → IsFirstNeedOf t plan pre from to p time → IsFirstNeedOf t plan pre from to q s → p < q → ⊥
need_no_later t plan pre from to p time q s a b lt = gap_breaks t plan from to p time a.gap (b.before p a.needed lt)

gap_no_later : (t : TaskShape) (plan : List Occ) (from to p time s : ℕ) → IsFirstGap t plan from to p time → IsFirstGap t plan from to p s → time < s → ⊥
gap_no_later t plan from to p time s a b lt = let h : holds_at t plan time p ≡ true = b.before time a.low lt in let z : ⊥ = cc (h, a.gap) in z

one_unmet : (t : TaskShape) (plan : List Occ) (i p time k q s : ℕ) → IsFirstUnmet t plan i p time → IsFirstUnmet t plan k q s → Unmet i p time ≡ Unmet k q s
one_unmet t plan i p time k q s a b =
    let o = occurrence_at plan i in
    let e : i ≡ k = same_place i k (unmet_no_later t plan i p time k q s a b) (unmet_no_later t plan k q s i p time b a) in
    let needs : IsFirstNeed t plan o q s = subst (λ x. IsFirstNeed t plan (occurrence_at plan x) q s) (sym e) b.need in
    let pre = (action_of t o).pre in
    let f : p ≡ q = same_place p q (need_no_later t plan pre o.start (end_of t o) p time q s a.need needs) (need_no_later t plan pre o.start (end_of t o) q s p time needs a.need) in
    let gap : IsFirstGap t plan o.start (end_of t o) p s = subst (λ x. IsFirstGap t plan o.start (end_of t o) x s) (sym f) needs.gap in
    let g : time ≡ s = same_place time s (gap_no_later t plan o.start (end_of t o) p time s a.need.gap gap) (gap_no_later t plan o.start (end_of t o) p s time gap a.need.gap) in
    cc

missing_no_later : (t : TaskShape) (plan : List Occ) (goal : List ℕ) (time p q : ℕ) → IsFirstMissingOf t plan goal time p → IsFirstMissingOf t plan goal time q → p < q → ⊥
missing_no_later t plan goal time p q a b lt = let h : holds_at t plan time p ≡ true = b.before p a.wanted lt in let z : ⊥ = cc (h, a.missing) in z

one_missing : (t : TaskShape) (plan : List Occ) (goal : List ℕ) (time p q : ℕ) → IsFirstMissingOf t plan goal time p → IsFirstMissingOf t plan goal time q → GoalMissing p ≡ GoalMissing q
one_missing t plan goal time p q a b = ap GoalMissing (same_place p q (missing_no_later t plan goal time p q a b) (missing_no_later t plan goal time q p b a))

-- a plan has one verdict
pub one_verdict : (t : TaskShape) (plan : List Occ) (v w : Verdict) → Judges t plan v → Judges t plan w → v ≡ w
one_verdict t plan (Valid m) w a b = ap Valid a.1 ∙ sym (refuted t plan w b a.0)
one_verdict t plan (Overlap i j) (Valid m) a b = refuted t plan (Overlap i j) a b.0 ∙ ap Valid (sym b.1)
one_verdict t plan (Unmet i p time) (Valid m) a b = refuted t plan (Unmet i p time) a b.0 ∙ ap Valid (sym b.1)
one_verdict t plan (GoalMissing p) (Valid m) a b = refuted t plan (GoalMissing p) a b.0 ∙ ap Valid (sym b.1)
one_verdict t plan (Overlap i j) (Overlap k l) a b = one_clash t plan i j k l a b
one_verdict t plan (Overlap i j) (Unmet k q s) a b = absurd (not_apart t plan i j a b.0)
one_verdict t plan (Overlap i j) (GoalMissing q) a b = absurd (not_apart t plan i j a b.0)
one_verdict t plan (Unmet i p time) (Overlap k l) a b = absurd (not_apart t plan k l b a.0)
one_verdict t plan (Unmet i p time) (Unmet k q s) a b = one_unmet t plan i p time k q s a.1 b.1
one_verdict t plan (Unmet i p time) (GoalMissing q) a b = absurd (not_met t plan (occurrence_at plan i) p time a.1.need (b.1 i (record { act = 0; start = 0 }) a.1.within))
one_verdict t plan (GoalMissing p) (Overlap k l) a b = absurd (not_apart t plan k l b a.0)
one_verdict t plan (GoalMissing p) (Unmet k q s) a b = absurd (not_met t plan (occurrence_at plan k) q s b.1.need (a.1 k (record { act = 0; start = 0 }) b.1.within))
one_verdict t plan (GoalMissing p) (GoalMissing q) a b = one_missing t plan t.goal (makespan t plan) p q a.2 b.2
