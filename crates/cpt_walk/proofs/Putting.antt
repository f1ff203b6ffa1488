-- rows that are put into tables
use Rattle.std.proofs.Common.{◌≡◌, ℕ, ◌+◌, ◌-◌, ◌<◌, ◌≤◌, inl, inr, ◌==◌, Bool, true, false, List, [], ◌∷◌, ◌++◌, length, get_or, drop, take, replicate, refl, sym, ap, ◌∙◌, subst, arith, length-append, add-one}
use Rattle.std.proofs.lemmas.Bool.{cases_lt, eq-eqb, ne_eqb, eqb-true, eqb-false}
use Rattle.std.proofs.lemmas.List.{get_or_append_left, get_or-append_right, length-replicate, replicate_more, drop_all, drop_more, append-nil, take-append-drop}
use Rattle.std.proofs.lemmas.Grind.{flat_map-append}
use Rattle.std.proofs.Math.Seq.{take-suc}
use Rattle.cpt_task.specs.declared.span.Span.{Span}
use Rattle.cpt_task.specs.declared.span.Span.TheVariants.{At, Never}
use Rattle.cpt_tables.specs.Spans.{IsBelow}
use Rattle.cpt_tables.specs.Shapes.{PairShape, DistShape, pair_at, dist_at, IsSamePair, SetsPair, SetsDist, IsSmallPairs, IsSmallDists}
use Rattle.cpt_cert_form.specs.declared.forms.Run.{Run}
use Rattle.cpt_cert_accept.specs.Reading.{values_of}
use Rattle.cpt_walk.specs.Puts.{PutsPairs, PutsDists}

-- what is read behind the last run
abbrev pub no_run : Run
no_run = record { value = At 0; count = 0 }

-- the values of a run and of the runs behind it
pub values_step : (runs : List Run) (i : ℕ) (d : Run) → i < length runs → values_of (drop i runs) ≡ replicate (get_or runs i d).count (get_or runs i d).value ++ values_of (drop (i + 1) runs)
values_step runs i d lt = ap values_of (drop_more runs i d lt)

pub nothing_pairs : (h : PairShape) (p q : ℕ) → PutsPairs h h p q []
nothing_pairs h p q = record { size = refl; here = λ i l. absurd (omega arith); others = λ r s le lt ne. refl; small = λ k. k }

pub put_pairs_more : (a b c : PairShape) (p q : ℕ) (vs ws : List Span) → p ≤ q → q + (length vs + length ws) ≤ a.atoms → PutsPairs a b p q vs → PutsPairs b c p (q + length vs) ws → PutsPairs a c p q (vs ++ ws)
put_pairs_more a b c p q vs ws le room h k =
    let long = length-append vs ws in
    record {
      size = k.size ∙ h.size;
      here = here long;
      others = λ r s rs lt ne. k.others r s rs (let e = h.size in omega (arith, lt, e)) (λ e l m. ne e (omega (arith, l)) (omega (arith, long, m))) ∙ h.others r s rs lt (λ e l m. ne e l (omega (arith, long, m)));
      small = λ z. k.small (h.small z);
    }
  where
    here : length (vs ++ ws) ≡ length vs + length ws → (i : ℕ) → i < length (vs ++ ws) → pair_at c p (q + i) ≡ get_or (vs ++ ws) i Never
    here long i lt = elim (cases_lt i (length vs)) [
      | inl l ↦ k.others p (q + i) (omega (arith, le)) (let e = h.size in omega (arith, room, l, e)) (λ e f g. omega (arith, f, l)) ∙ h.here i l ∙ sym (get_or_append_left vs ws Never i l)
      | inr m ↦ (let e : q + i ≡ q + length vs + (i - length vs) = omega (arith, m) in
          ap (λ z. pair_at c p z) e ∙ k.here (i - length vs) (omega (arith, lt, long, m)) ∙ sym (get_or-append_right vs ws (length vs) i Never refl m))
    ]

pub put_pair : (a b : PairShape) (p q : ℕ) (v : Span) → p ≤ q → q < a.atoms → SetsPair a b p q v → (IsSmallPairs a → IsBelow 1000000000000000 v → IsSmallPairs b) → IsBelow 1000000000000000 v → PutsPairs a b p q (v ∷ [])
put_pair a b p q v le lt sets small below =
    record {
      size = sets.size;
      here = λ i l. let e : i ≡ 0 = omega (arith, l) in ap (λ z. pair_at b p z) (omega (arith, e)) ∙ sets.here ∙ sym (ap (λ z. get_or (v ∷ []) z Never) e);
      others = λ r s rs ls ne. sets.others r s (omega (arith, rs, ls)) ls (differ r s rs ne);
      small = λ z. small z below;
    }
  where
    differ : (r s : ℕ) → r ≤ s → (r ≡ p → q ≤ s → s < q + 1 → ⊥) → IsSamePair r s p q → ⊥
    differ r s rs ne (inl e) = let f = e.1 in ne e.0 (omega (arith, f)) (omega (arith, f))
    differ r s rs ne (inr e) = let f = e.0 in let g = e.1 in ne (omega (arith, f, g, le, rs)) (omega (arith, f, g, le, rs)) (omega (arith, f, g, le, rs))

-- the counts of a row
count_step : (runs : List Run) (i : ℕ) (d : Run) → i < length runs → length (values_of (drop i runs)) ≡ (get_or runs i d).count + length (values_of (drop (i + 1) runs))
count_step runs i d lt =
    let run = get_or runs i d in
    let all = ap length (values_step runs i d lt) ∙ length-append (replicate run.count run.value) (values_of (drop (i + 1) runs)) in let count = length-replicate run.count run.value in omega (arith, all, count)

pub count_less : (runs : List Run) (i : ℕ) (d : Run) (left : ℕ) → i < length runs → left < (get_or runs i d).count → (length (values_of (drop i runs)) == left) ≡ false
count_less runs i d left lt less = let long = count_step runs i d lt in ne_eqb (length (values_of (drop i runs))) left (λ k. omega (arith, long, less, k))

pub count_more : (runs : List Run) (i : ℕ) (d : Run) (left : ℕ) → i < length runs → (get_or runs i d).count ≤ left →
    (length (values_of (drop (i + 1) runs)) == left - (get_or runs i d).count) ≡ (length (values_of (drop i runs)) == left)
count_more runs i d left lt le = shifted (get_or runs i d).count (length (values_of (drop (i + 1) runs))) (length (values_of (drop i runs))) left (count_step runs i d lt) le
  where
    shifted : (k m n left : ℕ) → n ≡ k + m → k ≤ left → (m == left - k) ≡ (n == left)
    shifted k m n left e le = go (m == left - k) refl
      where
        go : (c : Bool) → (m == left - k) ≡ c → c ≡ (n == left)
        go true h = let f = eqb-true m (left - k) h in sym (eq-eqb n left (omega (arith, e, f, le)))
        go false h = let f = eqb-false m (left - k) h in sym (ne_eqb n left (λ g. f (omega (arith, e, g, le))))

pub count_end : (runs : List Run) (i left : ℕ) → length runs ≤ i → (length (values_of (drop i runs)) == left) ≡ (left == 0)
count_end runs i left le = ap (λ rs. length (values_of rs) == left) (drop_all i runs le) ∙ turned
  where
    turned : (0 == left) ≡ (left == 0)
    turned = go (0 == left) refl
      where
        go : (c : Bool) → (0 == left) ≡ c → c ≡ (left == 0)
        go true h = let f = eqb-true 0 left h in sym (eq-eqb left 0 (sym f))
        go false h = let f = eqb-false 0 left h in sym (ne_eqb left 0 (λ g. f (sym g)))

-- a value more of a run
pub run_more : (a b c : PairShape) (p q i count : ℕ) (v : Span) → p ≤ q → q + count ≤ a.atoms → i < count → PutsPairs a b p q (replicate i v) → SetsPair b c p (q + i) v →
    (IsSmallPairs b → IsBelow 1000000000000000 v → IsSmallPairs c) → IsBelow 1000000000000000 v → PutsPairs a c p q (replicate (i + 1) v)
run_more a b c p q i count v le room lt h sets small below =
    let long = length-replicate i v in
    let size = h.size in
    let one : PutsPairs b c p (q + i) (v ∷ []) = put_pair b c p (q + i) v (omega (arith, le)) (omega (arith, room, lt, size)) sets small below in
    subst (PutsPairs a c p q) (replicate_more i v) (
    put_pairs_more a b c p q (replicate i v) (v ∷ []) le (omega (arith, long, room, lt)) h (subst (λ z. PutsPairs b c p (q + z) (v ∷ [])) (sym long) one)
    )

values_more : (runs : List Run) (i : ℕ) (d : Run) → i < length runs → values_of (take (i + 1) runs) ≡ values_of (take i runs) ++ replicate (get_or runs i d).count (get_or runs i d).value
values_more runs i d lt =
    let run = get_or runs i d in
    ap (λ z. values_of (take z runs)) (add-one i) ∙ ap values_of (take-suc runs i d lt) ∙ flat_map-append (λ (r : Run). replicate r.count r.value) (take i runs) (run ∷ [])
    ∙ ap (λ z. values_of (take i runs) ++ z) (append-nil (replicate run.count run.value))

-- the values of the runs so far are no more than all
values_within : (runs : List Run) (i : ℕ) → length (values_of (take i runs)) + length (values_of (drop i runs)) ≡ length (values_of runs)
values_within runs i =
    sym (length-append (values_of (take i runs)) (values_of (drop i runs))) ∙ ap length (sym (flat_map-append (λ (r : Run). replicate r.count r.value) (take i runs) (drop i runs)) ∙ ap values_of (take-append-drop i runs))

pub run_within : (runs : List Run) (i : ℕ) (d : Run) → i < length runs → length (values_of (take i runs)) + (get_or runs i d).count ≤ length (values_of runs)
run_within runs i d lt = let all = values_within runs i in let step = count_step runs i d lt in omega (arith, all, step)

pub place_more : (runs : List Run) (i : ℕ) (d : Run) (p q : ℕ) → i < length runs → q ≡ p + length (values_of (take i runs)) → q + (get_or runs i d).count ≡ p + length (values_of (take (i + 1) runs))
place_more runs i d p q lt e =
    let run = get_or runs i d in
    let long = ap length (values_more runs i d lt) ∙ length-append (values_of (take i runs)) (replicate run.count run.value) in let count = length-replicate run.count run.value in omega (arith, e, long, count)

pub row_more : (a b c : PairShape) (runs : List Run) (i : ℕ) (d : Run) (p q : ℕ) → i < length runs → q ≡ p + length (values_of (take i runs)) → p + length (values_of runs) ≡ a.atoms →
    PutsPairs a b p p (values_of (take i runs)) → PutsPairs b c p q (replicate (get_or runs i d).count (get_or runs i d).value) → PutsPairs a c p p (values_of (take (i + 1) runs))
row_more a b c runs i d p q lt e room h k =
    let run = get_or runs i d in
    let all = run_within runs i d lt in
    let count = length-replicate run.count run.value in
    subst (PutsPairs a c p p) (sym (values_more runs i d lt)) (
    put_pairs_more a b c p p (values_of (take i runs)) (replicate run.count run.value) (omega arith) (omega (arith, room, all, count)) h (subst (λ z. PutsPairs b c p z (replicate run.count run.value)) e k)
    )

pub nothing_dists : (d : DistShape) (a q : ℕ) → PutsDists d d a q []
nothing_dists d a q = record { actions = refl; atoms = refl; here = λ i l. absurd (omega arith); others = λ c s lc ls ne. refl; small = λ k. k }

put_dists_more : (d e f : DistShape) (a q : ℕ) (vs ws : List Span) → a < d.actions → q + (length vs + length ws) ≤ d.atoms → PutsDists d e a q vs → PutsDists e f a (q + length vs) ws → PutsDists d f a q (vs ++ ws)
put_dists_more d e f a q vs ws la room h k =
    let long = length-append vs ws in
    let rows = h.actions in
    let columns = h.atoms in
    record {
      actions = k.actions ∙ h.actions;
      atoms = k.atoms ∙ h.atoms;
      here = here long rows columns;
      others = λ c s lc ls ne. k.others c s (omega (arith, lc, rows)) (omega (arith, ls, columns)) (λ g l m. ne g (omega (arith, l)) (omega (arith, long, m))) ∙ h.others c s lc ls (λ g l m. ne g l (omega (arith, long, m)));
      small = λ z. k.small (h.small z);
    }
  where
    here : length (vs ++ ws) ≡ length vs + length ws → e.actions ≡ d.actions → e.atoms ≡ d.atoms → (i : ℕ) → i < length (vs ++ ws) → dist_at f a (q + i) ≡ get_or (vs ++ ws) i Never
    here long rows columns i lt = elim (cases_lt i (length vs)) [
      | inl l ↦ k.others a (q + i) (omega (arith, la, rows)) (omega (arith, room, l, columns)) (λ g m n. omega (arith, m, l)) ∙ h.here i l ∙ sym (get_or_append_left vs ws Never i l)
      | inr m ↦ (let g : q + i ≡ q + length vs + (i - length vs) = omega (arith, m) in
          ap (λ z. dist_at f a z) g ∙ k.here (i - length vs) (omega (arith, lt, long, m)) ∙ sym (get_or-append_right vs ws (length vs) i Never refl m))
    ]

put_dist : (d e : DistShape) (a q : ℕ) (v : Span) → a < d.actions → q < d.atoms → SetsDist d e a q v → (IsSmallDists d → IsBelow 1000000000000000 v → IsSmallDists e) → IsBelow 1000000000000000 v → PutsDists d e a q (v ∷ [])
put_dist d e a q v la lq sets small below =
    record {
      actions = sets.actions;
      atoms = sets.atoms;
      here = λ i l. let g : i ≡ 0 = omega (arith, l) in ap (λ z. dist_at e a z) (omega (arith, g)) ∙ sets.here ∙ sym (ap (λ z. get_or (v ∷ []) z Never) g);
      others = λ c s lc ls ne. sets.others c s lc ls (λ g. let m = g.1 in ne g.0 (omega (arith, m)) (omega (arith, m)));
      small = λ z. small z below;
    }

pub dist_run_more : (d e f : DistShape) (a q i count : ℕ) (v : Span) → a < d.actions → q + count ≤ d.atoms → i < count → PutsDists d e a q (replicate i v) → SetsDist e f a (q + i) v →
    (IsSmallDists e → IsBelow 1000000000000000 v → IsSmallDists f) → IsBelow 1000000000000000 v → PutsDists d f a q (replicate (i + 1) v)
dist_run_more d e f a q i count v la room lt h sets small below =
    let long = length-replicate i v in
    let rows = h.actions in
    let columns = h.atoms in
    let one : PutsDists e f a (q + i) (v ∷ []) = put_dist e f a (q + i) v (omega (arith, la, rows)) (omega (arith, room, lt, columns)) sets small below in
    subst (PutsDists d f a q) (replicate_more i v) (put_dists_more d e f a q (replicate i v) (v ∷ []) la (omega (arith, long, room, lt)) h (subst (λ z. PutsDists e f a (q + z) (v ∷ [])) (sym long) one))

pub dist_row_more : (d e f : DistShape) (runs : List Run) (i : ℕ) (r : Run) (a q : ℕ) → a < d.actions → i < length runs → q ≡ 0 + length (values_of (take i runs)) → length (values_of runs) ≡ d.atoms →
    PutsDists d e a 0 (values_of (take i runs)) → PutsDists e f a q (replicate (get_or runs i r).count (get_or runs i r).value) → PutsDists d f a 0 (values_of (take (i + 1) runs))
dist_row_more d e f runs i r a q la lt g room h k =
    let run = get_or runs i r in
    let all = run_within runs i r lt in
    let count = length-replicate run.count run.value in
    subst (PutsDists d f a 0) (sym (values_more runs i r lt)) (
    put_dists_more d e f a 0 (values_of (take i runs)) (replicate run.count run.value) la (omega (arith, room, all, count)) h (subst (λ z. PutsDists e f a z (replicate run.count run.value)) g k)
    )
