use Rattle.std.proofs.Common.{◌≡◌, ℕ, zero, suc, ◌<◌, ◌⊎◌, inl, inr, List, [], ◌∷◌, refl, sym, ap, ◌∙◌, subst, arith, Contains}
use Rattle.std.specs.List.{AllPairs}
use Rattle.cpt_task.specs.declared.plan.Occ.{Occ}
use Rattle.cpt_task.specs.declared.plan.Verdict.{Verdict}
use Rattle.cpt_task.specs.declared.plan.Verdict.TheVariants.{Valid, Overlap, Unmet, GoalMissing}
use Rattle.cpt_task.specs.Shape.{TaskShape}
use Rattle.cpt_explain.specs.Faults.{AreFaults, FaultBefore, IsFaultOf, PairBefore}
use Rattle.cpt_explain.specs.Laws.{OneFaultList}

pair_not_both : (i j k l : ℕ) → PairBefore i j k l → PairBefore k l i j → ⊥
pair_not_both i j k l a b = grind arith

-- no fault comes before another and behind it
not_both : (v w : Verdict) → FaultBefore v w → FaultBefore w v → ⊥
not_both (Overlap i j) (Overlap k l) a b = pair_not_both i j k l a b
not_both (Overlap i j) (Unmet k q s) a b = b
not_both (Overlap i j) (GoalMissing q) a b = b
not_both (Overlap i j) (Valid m) a b = a
not_both (Unmet i p time) (Unmet k q s) a b = pair_not_both i p k q a b
not_both (Unmet i p time) (GoalMissing q) a b = b
not_both (Unmet i p time) (Overlap k l) a b = a
not_both (Unmet i p time) (Valid m) a b = a
not_both (GoalMissing p) (GoalMissing q) a b = omega (arith, a, b)
not_both (GoalMissing p) (Overlap k l) a b = a
not_both (GoalMissing p) (Unmet k q s) a b = a
not_both (GoalMissing p) (Valid m) a b = a
not_both (Valid n) (Overlap k l) a b = a
not_both (Valid n) (Unmet k q s) a b = a
not_both (Valid n) (GoalMissing q) a b = a
not_both (Valid n) (Valid m) a b = a

in_front : (v : Verdict) (vs : List Verdict) → Contains (v ∷ vs) v
in_front v vs = (0, omega arith, refl)

behind : (v w : Verdict) (vs : List Verdict) → Contains vs w → Contains (v ∷ vs) w
behind v w vs h = (suc h.0, omega (arith, h.1), h.2)

cases : (v w : Verdict) (vs : List Verdict) → Contains (v ∷ vs) w → (w ≡ v) ⊎ Contains vs w
cases v w vs (zero, lt, e) = inl (sym e)
cases v w vs (suc k, lt, e) = inr (k, omega (arith, lt), e)

rest_ordered : (v : Verdict) (vs : List Verdict) → AllPairs FaultBefore (v ∷ vs) → AllPairs FaultBefore vs
rest_ordered v vs h i j d lt within = h (suc i) (suc j) d (omega (arith, lt)) (omega (arith, within))

-- the first comes before each later one
first_before : (v w : Verdict) (vs : List Verdict) → AllPairs FaultBefore (v ∷ vs) → Contains vs w → FaultBefore v w
first_before v w vs h has = subst (FaultBefore v) has.2 (h 0 (suc has.0) w (omega arith) (omega (arith, has.1)))

-- two lists in order with the same faults are one
one_list : (vs ws : List Verdict) → AllPairs FaultBefore vs → AllPairs FaultBefore ws → ((v : Verdict) → Contains vs v → Contains ws v) → ((v : Verdict) → Contains ws v → Contains vs v) → vs ≡ ws
one_list [] [] a b to from = refl
one_list [] (w ∷ ws) a b to from = let has = from w (in_front w ws) in absurd (let lt : has.0 < 0 = has.1 in omega (arith, lt))
one_list (v ∷ vs) [] a b to from = let has = to v (in_front v vs) in absurd (let lt : has.0 < 0 = has.1 in omega (arith, lt))
one_list (v ∷ vs) (w ∷ ws) a b to from =
    let same : v ≡ w = elim (cases w v ws (to v (in_front v vs))) [
      | inl e ↦ e
      | inr later ↦ elim (cases v w vs (from w (in_front w ws))) [
        | inl e ↦ sym e
        | inr after ↦ absurd (not_both v w (first_before v w vs a after) (first_before w v ws b later))
      ]
    ] in
    let forth : (x : Verdict) → Contains vs x → Contains ws x = λ x has. elim (cases w x ws (to x (behind v x vs has))) [
      | inl e ↦ absurd (let before : FaultBefore v w = subst (FaultBefore v) e (first_before v x vs a has) in let itself : FaultBefore w w = subst (λ y. FaultBefore y w) same before in not_both w w itself itself)
      | inr later ↦ later
    ] in
    let back : (x : Verdict) → Contains ws x → Contains vs x = λ x has. elim (cases v x vs (from x (behind w x ws has))) [
      | inl e ↦ absurd (let before : FaultBefore w v = subst (FaultBefore w) e (first_before w x ws b has) in let itself : FaultBefore v v = subst (λ y. FaultBefore y v) (sym same) before in not_both v v itself itself)
      | inr later ↦ later
    ] in
    ap (λ x. x ∷ vs) same ∙ ap (λ xs. w ∷ xs) (one_list vs ws (rest_ordered v vs a) (rest_ordered w ws b) forth back)

listed : (t : TaskShape) (plan : List Occ) (faults : List Verdict) (v : Verdict) → AreFaults t plan faults → Contains faults v → IsFaultOf t plan v
listed t plan faults v f has = subst (IsFaultOf t plan) has.2 (f.only has.0 v has.1)

-- a plan has one list of faults
pub one_fault_list : OneFaultList
one_fault_list t plan a b x y = one_list a b x.ordered y.ordered (λ v has. y.whole v (listed t plan a v x has)) (λ v has. x.whole v (listed t plan b v y has))
