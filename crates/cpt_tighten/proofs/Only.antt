use Rattle.std.proofs.Common.{◌≡◌, ℕ, suc, ◌<◌, ◌≤◌, ◌⊎◌, List, [], ◌∷◌, ◌++◌, reverse, length, refl, sym, ap, ◌∙◌, subst, arith, append_assoc}
use Rattle.std.proofs.lemmas.List.{reverse-append, reverse-reverse}
use Rattle.cpt_task.specs.declared.task.Action.{Action}
use Rattle.cpt_task.specs.declared.plan.Occ.{Occ}
use Rattle.cpt_task.specs.Shape.{TaskShape, InBounds}
use Rattle.cpt_task.specs.Timeline.{action_of, end_of, occurrence_at, IsPlan}
use Rattle.cpt_tighten.specs.Chains.{IsLink, LeadsTo}
use Rattle.cpt_tighten.specs.Laws.{OneChain, OneEarliest}
use Rattle.cpt_tighten.specs.Needs.{IsLatest}
use Rattle.cpt_tighten.specs.Schedules.{IsSchedule}
use Rattle.cpt_tighten.proofs.Places.{lasts, same_action}

-- two plans of one length with the same occurrences
same_plans : (xs ys : List Occ) → length xs ≡ length ys → ((k : ℕ) → (occurrence_at xs k).act ≡ (occurrence_at ys k).act) → ((k : ℕ) → (occurrence_at xs k).start ≡ (occurrence_at ys k).start) → xs ≡ ys
same_plans [] [] size acts starts = refl
same_plans [] (y ∷ ys) size acts starts = absurd (omega (arith, size))
same_plans (x ∷ xs) [] size acts starts = absurd (omega (arith, size))
same_plans (x ∷ xs) (y ∷ ys) size acts starts =
    let head : x ≡ y = ap (λ (a : ℕ). record { act = a; start = x.start }) (acts 0) ∙ ap (λ (s : ℕ). record { act = y.act; start = s }) (starts 0) in
    let tail : xs ≡ ys = same_plans xs ys (omega (arith, size)) (λ k. acts (suc k)) (λ k. starts (suc k)) in
    ap (λ o. o ∷ xs) head ∙ ap (λ os. y ∷ os) tail

both_ways : (a b : ℕ) → a ≤ b → b ≤ a → a ≡ b
both_ways a b x y = omega (arith, x, y)

-- a plan has one earliest schedule
pub one_earliest : OneEarliest
one_earliest t plan a b x y =
    same_plans a b (x.schedule.size ∙ sym y.schedule.size) (λ k. x.schedule.actions k ∙ sym (y.schedule.actions k))
    (λ k. both_ways (occurrence_at a k).start (occurrence_at b k).start (x.least b y.schedule y.keeps k) (y.least a x.schedule x.keeps k))

-- the places before one, backwards, each linked to the next, to one that starts at 0
abbrev Back : TaskShape → (plan tight : List Occ) → ℕ → List ℕ → Type 0
Back t plan tight j [] = (occurrence_at tight j).start ≡ 0
Back t plan tight j (i ∷ is) = IsLink t plan tight i j × Back t plan tight i is

-- a chain read backwards
back : (t : TaskShape) (plan tight : List Occ) (last i : ℕ) (is before : List ℕ) → LeadsTo t plan tight last i is → Back t plan tight i before → (xs : List ℕ) × (reverse is ++ i ∷ before ≡ last ∷ xs) × Back t plan tight last xs
back t plan tight last i [] before leads b = (before, ap (λ x. x ∷ before) leads, subst (λ x. Back t plan tight x before) leads b)
back t plan tight last i (j ∷ js) before leads b =
    let rest = back t plan tight last j js (i ∷ before) leads.1 (leads.0, b) in
    (rest.0, ap (λ xs. xs ++ i ∷ before) (reverse-append (j ∷ []) js) ∙ append_assoc (reverse js) (j ∷ []) (i ∷ before) ∙ rest.1, rest.2)

-- where no occurrence ends when it starts, what leads back is one
one_back : (t : TaskShape) (plan tight : List Occ) (j : ℕ) (xs ys : List ℕ) → ((i : ℕ) → i < length plan → 0 < end_of t (occurrence_at tight i)) → Back t plan tight j xs → Back t plan tight j ys → xs ≡ ys
one_back t plan tight j [] [] long a b = refl
one_back t plan tight j [] (k ∷ ks) long a b =
    let meets : end_of t (occurrence_at tight k) ≡ (occurrence_at tight j).start = b.0.meets in
    absurd (omega (arith, meets, a, long k b.0.needed.first))
one_back t plan tight j (i ∷ is) [] long a b =
    let meets : end_of t (occurrence_at tight i) ≡ (occurrence_at tight j).start = a.0.meets in
    absurd (omega (arith, meets, b, long i a.0.needed.first))
one_back t plan tight j (i ∷ is) (k ∷ ks) long a b =
    let same : i ≡ k = both_ways i k (a.0.least k b.0.needed b.0.meets) (b.0.least i a.0.needed a.0.meets) in
    let rest : is ≡ ks = one_back t plan tight i is ks long a.1 (subst (λ x. Back t plan tight x ks) (sym same) b.1) in
    ap (λ x. x ∷ is) same ∙ ap (λ xs. k ∷ xs) rest

same_place : (e f i k : ℕ) → ((f < e) ⊎ ((f ≡ e) × (i ≤ k))) → ((e < f) ⊎ ((e ≡ f) × (k ≤ i))) → i ≡ k
same_place e f i k a b = grind arith

one_last : (t : TaskShape) (plan : List Occ) (P : ℕ → Type 0) (i k : ℕ) → IsLatest t plan P i → IsLatest t plan P k → i ≡ k
one_last t plan P i k a b = same_place (end_of t (occurrence_at plan i)) (end_of t (occurrence_at plan k)) i k (a.last k b.among) (b.last i a.among)

ends_late : (t : TaskShape) (plan tight : List Occ) (i : ℕ) → InBounds t → IsPlan t plan → IsSchedule plan tight → i < length plan → 0 < end_of t (occurrence_at tight i)
ends_late t plan tight i b p s lt =
    let dur : (action_of t (occurrence_at tight i)).dur ≡ (action_of t (occurrence_at plan i)).dur = ap (λ (a : Action). a.dur) (same_action t plan tight i s) in
    let long : (occurrence_at plan i).start < end_of t (occurrence_at plan i) = lasts t plan i b p lt in
    omega (arith, dur, long)

no_last : (t : TaskShape) (plan tight : List Occ) (last : ℕ) → plan ≡ [] → IsLatest t tight (λ k. k < length plan) last → ⊥
no_last t plan tight last e l = let lt : last < length plan = l.among in let none : length plan ≡ 0 = ap (λ (xs : List Occ). length xs) e in omega (arith, lt, none)

-- a schedule has one chain
pub one_chain : OneChain
one_chain t plan tight [] [] bounds of_task s a b = refl
one_chain t plan tight [] (k ∷ ks) bounds of_task s a b = absurd (no_last t plan tight b.1.0 a b.1.1)
one_chain t plan tight (i ∷ is) [] bounds of_task s a b = absurd (no_last t plan tight a.1.0 b a.1.1)
one_chain t plan tight (i ∷ is) (k ∷ ks) bounds of_task s a b =
    let last : a.1.0 ≡ b.1.0 = one_last t tight (λ k. k < length plan) a.1.0 b.1.0 a.1.1 b.1.1 in
    let x = back t plan tight a.1.0 i is [] a.1.2 a.0 in
    let y = back t plan tight b.1.0 k ks [] b.1.2 b.0 in
    let same : x.0 ≡ y.0 = one_back t plan tight b.1.0 x.0 y.0 (λ n lt. ends_late t plan tight n bounds of_task s lt) (subst (λ z. Back t plan tight z x.0) last x.2) y.2 in
    let turned : reverse (i ∷ is) ≡ reverse (k ∷ ks) =
    reverse-append (i ∷ []) is ∙ x.1 ∙ ap (λ z. z ∷ x.0) last ∙ ap (λ zs. b.1.0 ∷ zs) same ∙ sym y.1 ∙ sym (reverse-append (k ∷ []) ks) in
    sym (reverse-reverse (i ∷ is)) ∙ ap reverse turned ∙ reverse-reverse (k ∷ ks)
