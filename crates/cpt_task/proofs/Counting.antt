use Rattle.std.proofs.Common.{◌≡◌, ℕ, ◌+◌, ◌-◌, ◌<◌, ◌≤◌, ◌==◌, ◌⊎◌, inl, inr, Bool, true, false, cond, ◌&&◌, ◌||◌, nat_lt, nat_eq, List, [], ◌∷◌, ◌++◌, length, get_or, take, refl, ap, subst, arith, All, Contains, length-take-le, drop, drop-cons, add-one, append_assoc}
use Rattle.std.specs.List.{count_by, sum_by}
use Rattle.std.proofs.lemmas.Bool.Decides.{nat_tests}
use Rattle.std.proofs.lemmas.List.{get_or-take}
use Rattle.std.proofs.lemmas.List.Elements.{All-head, All-tail}
use Rattle.std.proofs.lemmas.List.Folds.{list_any-from_Any}
use Rattle.std.proofs.lemmas.List.Sums.{sum_by-cons, sum_by-append, sum_by_more_le, get_or-le-sum_by}
use Rattle.std.proofs.lemmas.List.Sorted.{sum_by-IsPermutation}
use Rattle.cpt_task.specs.declared.plan.Occ.{Occ}
use Rattle.cpt_task.specs.declared.register.Role.{Role}
use Rattle.cpt_task.specs.declared.register.Border.{Border}
use Rattle.cpt_task.specs.declared.register.Border.TheVariants.{Start, End}
use Rattle.cpt_task.specs.declared.register.Mark.{Mark}
use Rattle.cpt_task.specs.Shape.{TaskShape}
use Rattle.cpt_task.specs.Timeline.{action_of, end_of, is_in, occurrence_at}
use Rattle.cpt_task.specs.Register.{atoms_in, moment_of, marks_at, marks_of, is_before, IsMarks, IsAlone}

-- 1 where the test passes, and else 0
abbrev pub one_if : Bool → ℕ
one_if b = cond b 1 0

-- an occurrence from st to en counts once more as begun before e than as ended up to s, where it crosses from s to e
one_gap : (p s e st en q : ℕ) → s < e → st < en
    → one_if (nat_lt q p || ((q == p) && nat_lt en (s + 1))) + one_if ((nat_lt st e && nat_lt s en) && nat_eq p q) ≤ one_if (nat_lt q p || ((q == p) && nat_lt st e))
one_gap p s e st en q low long = grind (arith, nat_tests)

join_gap : (c x r : Bool) → one_if (c && (x || r)) ≤ one_if (c && x) + one_if (c && r)
join_gap true true r = omega arith
join_gap true false r = omega arith
join_gap false x r = omega arith

-- the same for each atom of a list
list_gap : (p s e st en : ℕ) (qs : List ℕ) → s < e → st < en
    → count_by (is_before p (s + 1)) (marks_at en qs) + one_if ((nat_lt st e && nat_lt s en) && is_in p qs) ≤ count_by (is_before p e) (marks_at st qs)
list_gap p s e st en [] low long = let none : one_if ((nat_lt st e && nat_lt s en) && false) ≡ 0 = never (nat_lt st e && nat_lt s en) in omega (arith, none)
  where
    never : (c : Bool) → one_if (c && false) ≡ 0
    never true = refl
    never false = refl
list_gap p s e st en (q ∷ qs) low long =
    let rest : count_by (is_before p (s + 1)) (marks_at en qs) + one_if ((nat_lt st e && nat_lt s en) && is_in p qs) ≤ count_by (is_before p e) (marks_at st qs) = list_gap p s e st en qs low long in
    let one = one_gap p s e st en q low long in
    let ended : count_by (is_before p (s + 1)) (marks_at en (q ∷ qs)) ≡ one_if (nat_lt q p || ((q == p) && nat_lt en (s + 1))) + count_by (is_before p (s + 1)) (marks_at en qs)
    = sum_by-cons (λ m. one_if (is_before p (s + 1) m)) (record { atom = q; time = en }) (marks_at en qs) in
    let begun : count_by (is_before p e) (marks_at st (q ∷ qs)) ≡ one_if (nat_lt q p || ((q == p) && nat_lt st e)) + count_by (is_before p e) (marks_at st qs)
    = sum_by-cons (λ m. one_if (is_before p e m)) (record { atom = q; time = st }) (marks_at st qs) in
    let joined : one_if ((nat_lt st e && nat_lt s en) && is_in p (q ∷ qs)) ≤ one_if ((nat_lt st e && nat_lt s en) && nat_eq p q) + one_if ((nat_lt st e && nat_lt s en) && is_in p qs)
    = join_gap (nat_lt st e && nat_lt s en) (nat_eq p q) (is_in p qs) in
    omega (arith, rest, one, ended, begun, joined)

-- the occurrence has the atom in the list and crosses from s to e
abbrev crosses : TaskShape → Role → ℕ → ℕ → ℕ → Occ → Bool
crosses t r p s e o = (nat_lt o.start e && nat_lt s (end_of t o)) && is_in p (atoms_in r (action_of t o))

-- the same for each occurrence of a plan
plan_gap : (t : TaskShape) (r : Role) (p s e : ℕ) (plan : List Occ) → s < e → All (λ o. o.start < end_of t o) plan
    → count_by (is_before p (s + 1)) (marks_of t r End plan) + sum_by (λ o. one_if (crosses t r p s e o)) plan ≤ count_by (is_before p e) (marks_of t r Start plan)
plan_gap t r p s e [] low long = omega arith
plan_gap t r p s e (o ∷ os) low long =
    let ps = atoms_in r (action_of t o) in
    let rest : count_by (is_before p (s + 1)) (marks_of t r End os) + sum_by (λ o. one_if (crosses t r p s e o)) os ≤ count_by (is_before p e) (marks_of t r Start os)
    = plan_gap t r p s e os low (All-tail (λ o. o.start < end_of t o) o os long) in
    let one : count_by (is_before p (s + 1)) (marks_at (end_of t o) ps) + one_if (crosses t r p s e o) ≤ count_by (is_before p e) (marks_at o.start ps)
    = list_gap p s e o.start (end_of t o) ps low (All-head (λ o. o.start < end_of t o) o os long) in
    let ended : count_by (is_before p (s + 1)) (marks_of t r End (o ∷ os)) ≡ count_by (is_before p (s + 1)) (marks_at (end_of t o) ps) + count_by (is_before p (s + 1)) (marks_of t r End os)
    = sum_by-append (λ m. one_if (is_before p (s + 1) m)) (marks_at (end_of t o) ps) (marks_of t r End os) in
    let begun : count_by (is_before p e) (marks_of t r Start (o ∷ os)) ≡ count_by (is_before p e) (marks_at o.start ps) + count_by (is_before p e) (marks_of t r Start os)
    = sum_by-append (λ m. one_if (is_before p e m)) (marks_at o.start ps) (marks_of t r Start os) in
    let all : sum_by (λ o. one_if (crosses t r p s e o)) (o ∷ os) ≡ one_if (crosses t r p s e o) + sum_by (λ o. one_if (crosses t r p s e o)) os
    = sum_by-cons (λ o. one_if (crosses t r p s e o)) o os in
    omega (arith, rest, one, ended, begun, all)

earlier_two : {X : Type 0} (f : X → ℕ) (xs : List X) (i k : ℕ) (d : X) → i < k → k < length xs → f (get_or xs i d) + f (get_or xs k d) ≤ sum_by f xs
earlier_two f xs i k d before lt =
    let len : length (take k xs) ≡ k = length-take-le k xs (omega arith) in
    let first : f (get_or (take k xs) i d) ≤ sum_by f (take k xs) = get_or-le-sum_by f (take k xs) i d (omega (arith, len)) in
    let same : f (get_or (take k xs) i d) ≡ f (get_or xs i d) = ap f (get_or-take k xs i d before) in
    let more : sum_by f (take k xs) + f (get_or xs k d) ≤ sum_by f xs = sum_by_more_le f xs k d lt in
    omega (arith, first, same, more)

apart_cases : (i k : ℕ) → (k ≡ i → ⊥) → (i < k) ⊎ (k < i)
apart_cases i k h = grind arith

-- the terms at two places are within the sum
pub two_of_sum : {X : Type 0} (f : X → ℕ) (xs : List X) (i k : ℕ) (d : X) → (k ≡ i → ⊥) → i < length xs → k < length xs → f (get_or xs i d) + f (get_or xs k d) ≤ sum_by f xs
two_of_sum f xs i k d ne li lk =
    elim (apart_cases i k ne) [
      | inl before ↦ earlier_two f xs i k d before lk
      | inr behind ↦ let h : f (get_or xs k d) + f (get_or xs i d) ≤ sum_by f xs = earlier_two f xs k i d behind li in omega (arith, h)
    ]

pub is_in_from : (xs : List ℕ) (p : ℕ) → Contains xs p → is_in p xs ≡ true
is_in_from xs p has = list_any-from_Any (nat_eq p) xs (has.0, p, has.1, has.2, grind (arith, nat_tests))

crossing : (s e st en : ℕ) (b : Bool) → st < e → s < en → b ≡ true → one_if ((nat_lt st e && nat_lt s en) && b) ≡ 1
crossing s e st en b low high is = grind (arith, nat_tests)

-- where no more have begun than have ended and the place itself has, the place is alone
pub alone : (t : TaskShape) (plan : List Occ) (r : Role) (i p begun ended own : ℕ) (starts ends : List Mark)
    → i < length plan → IsMarks t plan r Start starts → IsMarks t plan r End ends
    → begun ≡ count_by (is_before p (end_of t (occurrence_at plan i))) starts → ended ≡ count_by (is_before p ((occurrence_at plan i).start + 1)) ends
    → (own ≡ 0) ⊎ ((own ≡ 1) × (is_in p (atoms_in r (action_of t (occurrence_at plan i))) ≡ true)) → begun - ended ≤ own → IsAlone t plan r i p
alone t plan r i p begun ended own starts ends lt sm em bs es mine few k lk ne has over =
    let o = occurrence_at plan i in
    let q = occurrence_at plan k in
    let f : Occ → ℕ = λ x. one_if (crosses t r p o.start (end_of t o) x) in
    let length_i : o.start < end_of t o = sm.lasting i (record { act = 0; start = 0 }) lt in
    let gap : count_by (is_before p (o.start + 1)) (marks_of t r End plan) + sum_by f plan ≤ count_by (is_before p (end_of t o)) (marks_of t r Start plan) = plan_gap t r p o.start (end_of t o) plan length_i sm.lasting in
    let b2 : count_by (is_before p (end_of t o)) starts ≡ count_by (is_before p (end_of t o)) (marks_of t r Start plan) = sum_by-IsPermutation (λ m. one_if (is_before p (end_of t o) m)) (marks_of t r Start plan) starts sm.same in
    let e2 : count_by (is_before p (o.start + 1)) ends ≡ count_by (is_before p (o.start + 1)) (marks_of t r End plan) = sum_by-IsPermutation (λ m. one_if (is_before p (o.start + 1) m)) (marks_of t r End plan) ends em.same in
    let two : f o + f q ≤ sum_by f plan = two_of_sum f plan i k (record { act = 0; start = 0 }) ne lt lk in
    let fq : f q ≡ 1 = crossing o.start (end_of t o) q.start (end_of t q) (is_in p (atoms_in r (action_of t q))) over.second over.first (is_in_from (atoms_in r (action_of t q)) p has) in
    elim mine [
      | inl none ↦ omega (arith, gap, b2, e2, two, fq, none, bs, es, few)
      | inr one ↦ let fo : f o ≡ 1 = crossing o.start (end_of t o) o.start (end_of t o) (is_in p (atoms_in r (action_of t o))) length_i length_i one.1 in omega (arith, gap, b2, e2, two, fq, fo, one.0, bs, es, few)
    ]

-- one more occurrence
pub step_marks : (t : TaskShape) (r : Role) (b : Border) (plan : List Occ) (i : ℕ) (d : Occ) (old new : List Mark) → i < length plan
    → new ≡ old ++ marks_at (moment_of t b (get_or plan i d)) (atoms_in r (action_of t (get_or plan i d))) → old ++ marks_of t r b (drop i plan) ≡ marks_of t r b plan
    → new ++ marks_of t r b (drop (i + 1) plan) ≡ marks_of t r b plan
step_marks t r b plan i d old new lt e inv =
    let cut : drop i plan ≡ get_or plan i d ∷ drop (i + 1) plan = rw add-one (drop-cons plan i d lt) in
    let whole : old ++ (marks_at (moment_of t b (get_or plan i d)) (atoms_in r (action_of t (get_or plan i d))) ++ marks_of t r b (drop (i + 1) plan)) ≡ marks_of t r b plan
    = subst (λ xs. old ++ marks_of t r b xs ≡ marks_of t r b plan) cut inv in
    rw e (rw append_assoc whole)
