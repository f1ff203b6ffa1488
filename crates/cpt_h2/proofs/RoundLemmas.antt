-- laws of rounds
use Rattle.std.proofs.Common.{◌≡◌, ℕ, suc, ◌+◌, ◌<◌, ◌≤◌, ◌⊎◌, inl, inr, Bool, true, false, cond, List, length, get_or, All, refl, sym, ap, subst, ◌∙◌, arith}
use Rattle.std.proofs.lemmas.List.Elements.{All-contains}
use Rattle.cpt_task.specs.declared.task.Action.{Action}
use Rattle.cpt_task.specs.Timeline.{idle}
use Rattle.cpt_tables.specs.Spans.{◌≤ˢ◌}
use Rattle.cpt_tables.specs.Shapes.{PairShape, pair_at, pair_place, row_start}
use Rattle.cpt_tables.proofs.SpanLemmas.{le_refl, le_trans}
use Rattle.cpt_tables.specs.Weights.{value_at, weight, IsSmall}
use Rattle.cpt_h2.specs.Board.{IsUnder, MarksShape, BoardShape, IsUnmarked, IsQuiet, IsGood, IsWithin, IsClear, Goes, Drops}
use Rattle.cpt_h2.specs.Rules.{Rule, needs_of, limit_of, IsRuleAt, action_of}
use Rattle.cpt_h2.specs.Rules.IsRuleAt.{by_itself, with_atom, with_action}
use Rattle.cpt_h2.specs.Rounds.{IsSettled, Works, Sinks, IsRule, MeetsAll, AllSettled, EndsRound}
use Rattle.cpt_h2.proofs.RuleLemmas.{HasNeeds, needs_beside, needs_two, limit_mono}

-- what a rule is made of is in range
pub rule_needs : (actions : List Action) (n : ℕ) (r : Rule) → All (IsWithin n) actions → IsRule actions n r → HasNeeds n r
rule_needs actions n r all (k, lt, is) = go is
  where
    go : IsRuleAt actions n k r → HasNeeds n r
    go (by_itself e) = subst (HasNeeds n) (sym e) (all k idle lt).atoms.pre
    go (with_atom by) = subst (HasNeeds n) (sym by.2) (needs_beside n (action_of actions k) by.0 (all k idle lt) by.1)
    go (with_action by) = subst (HasNeeds n) (sym by.2) (needs_two n (action_of actions k) (action_of actions by.0) (all k idle lt) (all by.0 idle (let less : by.0 < suc k = by.1 in omega (arith, less, lt))))

pub sinks_same : (G : PairShape → Type 0) (b : BoardShape) → IsGood b → Sinks G b b
sinks_same G b good = record { size = refl; good = good; under = λ k. le_refl (value_at b.pairs.values k); above = λ g holds under. under }

pub sinks_again : (G : PairShape → Type 0) (old mid new : BoardShape) → Sinks G old mid → Sinks G mid new → Sinks G old new
sinks_again G old mid new f s = record {
  size = s.size ∙ f.size;
  good = s.good;
  under = λ k. le_trans (value_at new.pairs.values k) (value_at mid.pairs.values k) (value_at old.pairs.values k) (s.under k) (f.under k);
  above = λ g holds under. s.above g holds (f.above g holds under);
}

-- the start of a round
pub good_start : (old mid : BoardShape) (n : ℕ) → IsGood old → mid.pairs ≡ old.pairs → length mid.marks.atoms ≡ n → n ≡ old.pairs.atoms → IsGood mid
good_start old mid n good same size e = record {
  places = subst (λ (h : PairShape). length h.values ≡ row_start h.atoms) (sym same) good.places;
  marks = size ∙ (e ∙ ap (λ (h : PairShape). h.atoms) (sym same));
  few = subst (λ (h : PairShape). h.atoms ≤ 2048) (sym same) good.few;
  small = subst (λ (h : PairShape). IsSmall h.values) (sym same) good.small;
}

-- what has been settled by a round
settled_by_round : (actions : List Action) (old mid new : BoardShape) (r : Rule) → mid.pairs ≡ old.pairs → HasNeeds old.pairs.atoms r
    → IsSettled old.pairs old r → Drops (MeetsAll actions old.pairs.atoms) mid new → IsQuiet old.marks (needs_of r) ⊎ IsSettled mid.pairs new r → IsSettled new.pairs new r
settled_by_round actions old mid new r same needs was drops cases quiet p q con =
    le_trans (pair_at new.pairs p q) (limit_of mid.pairs r) (limit_of new.pairs r) (by cases)
    (limit_mono mid.pairs new.pairs r (λ x y hx hy. subst (λ v. v ≤ˢ pair_at new.pairs x y) (drops.spares.same x y (All-contains (IsUnmarked new.marks) (needs_of r) x quiet.atoms hx) (subst (λ (h : PairShape). y < h.atoms) (sym same) (All-contains (λ a. a < old.pairs.atoms) (needs_of r) y needs hy))) (le_refl (pair_at new.pairs x y))))
  where
    by : IsQuiet old.marks (needs_of r) ⊎ IsSettled mid.pairs new r → pair_at new.pairs p q ≤ˢ limit_of mid.pairs r
    by (inl before) = le_trans (pair_at new.pairs p q) (pair_at mid.pairs p q) (limit_of mid.pairs r) (drops.under (pair_place p q)) (subst (λ (h : PairShape). pair_at h p q ≤ˢ limit_of h r) (sym same) (was before p q con))
    by (inr settled) = settled quiet p q con

quiet_if_clear : (m : MarksShape) (n : ℕ) (ps : List ℕ) → IsClear m n → All (λ p. p < n) ps → IsQuiet m ps
quiet_if_clear m n ps clear within = record { some = clear.some; atoms = λ k d lt. clear.none (get_or ps k d) (within k d lt) }

abbrev count : Bool → ℕ
count x = cond x 1 0

round_less : (old mid new : BoardShape) → mid.pairs ≡ old.pairs → mid.moved ≡ false → Goes mid new → weight new.pairs.values + cond new.moved 1 0 < weight old.pairs.values + 1
round_less old mid new same still (inl e) =
    let one : weight new.pairs.values ≡ weight old.pairs.values = ap (λ (b : BoardShape). weight b.pairs.values) e ∙ ap (λ (h : PairShape). weight h.values) same in
    let two : count new.moved ≡ 0 = ap (λ (b : BoardShape). count b.moved) e ∙ ap count still in
    omega (arith, one, two)
round_less old mid new same still (inr h) =
    let one : weight new.pairs.values < weight mid.pairs.values = h.0 in
    let two : weight mid.pairs.values ≡ weight old.pairs.values = ap (λ (x : PairShape). weight x.values) same in
    let three : count new.moved ≡ 1 = ap count h.1 in
    omega (arith, one, two, three)

pub ends_round : (actions : List Action) (old mid new : BoardShape) (n : ℕ) → All (IsWithin old.pairs.atoms) actions → mid.pairs ≡ old.pairs → mid.moved ≡ false
    → n ≡ old.pairs.atoms → IsClear mid.marks n → AllSettled actions old → Works (IsRule actions old.pairs.atoms) old.marks mid new → EndsRound actions old new
ends_round actions old mid new n within same still e clear was works = record {
  sinks = record {
    size = works.drops.size ∙ ap (λ (h : PairShape). h.atoms) same;
    good = works.drops.good;
    under = λ k. subst (λ (h : PairShape). value_at new.pairs.values k ≤ˢ value_at h.values k) same (works.drops.under k);
    above = λ g holds under. works.drops.above g holds (subst (λ (h : PairShape). IsUnder g.values h.values) (sym same) under);
  };
  settled = λ r is. settled r (subst (λ k. IsRule actions k r) (works.drops.size ∙ ap (λ (h : PairShape). h.atoms) same) is);
  last = λ stopped r is. settled r is (quiet stopped works.drops.goes r is);
  less = round_less old mid new same still works.drops.goes;
}
  where
    settled : (r : Rule) → IsRule actions old.pairs.atoms r → IsSettled new.pairs new r
    settled r is = settled_by_round actions old mid new r same (rule_needs actions old.pairs.atoms r within is) (was r is) works.drops (works.settled r is)

    quiet : new.moved ≡ false → Goes mid new → (r : Rule) → IsRule actions old.pairs.atoms r → IsQuiet new.marks (needs_of r)
    quiet stopped (inl none) r is = subst (λ (b : BoardShape). IsQuiet b.marks (needs_of r)) (sym none) (quiet_if_clear mid.marks n (needs_of r) clear (subst (λ k. All (λ p. p < k) (needs_of r)) (sym e) (rule_needs actions old.pairs.atoms r within is)))
    quiet stopped (inr moved) r is = absurd (differ (sym moved.1 ∙ stopped))
      where
        differ : true ≡ false → ⊥
        differ x = cc

-- at the start every rule is to be looked at
pub settled_at_first : (actions : List Action) (b : BoardShape) → b.marks.every ≡ true → AllSettled actions b
settled_at_first actions b every r is quiet = absurd (differ (sym every ∙ quiet.some))
  where
    differ : true ≡ false → ⊥
    differ x = cc

pub sinks_along : (actions : List Action) (m n : ℕ) (old new : BoardShape) → m ≡ n → Sinks (MeetsAll actions m) old new → Sinks (MeetsAll actions n) old new
sinks_along actions m n old new e h = subst (λ k. Sinks (MeetsAll actions k) old new) e h

pub less_left : (old new : BoardShape) (was going : Bool) → was ≡ true → going ≡ new.moved → weight new.pairs.values + cond new.moved 1 0 < weight old.pairs.values + 1 → weight new.pairs.values + cond going 1 0 < weight old.pairs.values + cond was 1 0
less_left old new was going e f less =
    let one : count was ≡ 1 = ap count e in
    let two : count going ≡ count new.moved = ap count f in
    let three : weight new.pairs.values + count new.moved < weight old.pairs.values + 1 = less in
    omega (arith, one, two, three)
