-- laws of boards
use Rattle.std.proofs.Common.{◌≡◌, ℕ, ◌+◌, ◌<◌, ◌≤◌, inl, inr, Bool, true, false, List, length, get_or, set, take, All, refl, sym, ap, subst, ◌∙◌, arith}
use Rattle.std.proofs.lemmas.Bool.{cases_eq}
use Rattle.std.proofs.lemmas.List.{get_or-set_other, get_or-set_same, length-set}
use Rattle.std.proofs.lemmas.List.Elements.{All-more, All-weaker}
use Rattle.cpt_task.specs.declared.span.Span.{Span}
use Rattle.cpt_task.specs.declared.span.Span.TheVariants.{Never}
use Rattle.cpt_tables.specs.Spans.{◌≤ˢ◌}
use Rattle.cpt_tables.specs.Shapes.{PairShape, pair_at, pair_place, row_start, IsSamePair}
use Rattle.cpt_tables.proofs.SpanLemmas.{le_refl, le_trans}
use Rattle.cpt_tables.proofs.PlaceLemmas.{place_within, same_from_pair_place, row_before}
use Rattle.cpt_tables.specs.Weights.{value_at, reached, weight, IsNextTo}
use Rattle.cpt_h2.specs.Board.{IsUnder, BoardShape, IsUnmarked, IsGood, Spares, Goes, Drops, AllBelow, LowersPair, lowered, marked, LowersRow, LowersRows}
use Rattle.cpt_tables.proofs.WeightLemmas.{set_small, set_more, set_le, set_lighter, next_more}

-- the values stay at least those of g where one is lowered to at least that of g
pub under_set : (g xs : List Span) (k : ℕ) (v : Span) → k < length xs → IsUnder g xs → value_at g k ≤ˢ v → IsUnder g (set xs k v)
under_set g xs k v within under le j lt =
    let inside : j < length xs = subst (λ n. j < n) (length-set xs k v) lt in
    elim (cases_eq j k) [
      | inl e ↦ subst (λ i. value_at g i ≤ˢ value_at (set xs k v) i) (sym e) (subst (λ x. value_at g k ≤ˢ x) (sym (get_or-set_same xs k v Never within)) le)
      | inr ne ↦ subst (λ x. value_at g j ≤ˢ x) (sym (get_or-set_other xs k j v Never ne)) (under j inside)
    ]

-- there are few places
row_start_few : (n : ℕ) → n ≤ 2048 → row_start n ≤ 8388608
row_start_few n few = elim (cases_eq n 2048) [
  | inl e ↦ let same : row_start n ≡ row_start 2048 = ap row_start e in omega (arith, same)
  | inr ne ↦ let less : row_start n + n < row_start 2048 = row_before n 2048 (omega arith) in omega (arith, less)
]

pub places_few : (b : BoardShape) → IsGood b → length b.pairs.values ≤ 8388608
places_few b good = subst (λ n. n ≤ 8388608) (sym good.places) (row_start_few b.pairs.atoms good.few)

pub drops_same : (G : PairShape → Type 0) (old new : BoardShape) → new ≡ old → IsGood old → Drops G old new
drops_same G old new e good = subst (Drops G old) (sym e) (record {
  size = refl;
  good = good;
  more = omega arith;
  under = λ k. le_refl (value_at old.pairs.values k);
  above = λ g holds under. under;
  spares = record { every = refl; unmarked = λ p u. u; same = λ p q u lt. refl };
  goes = inl refl;
})

spares_again : (old mid new : BoardShape) → mid.pairs.atoms ≡ old.pairs.atoms → Spares old mid → Spares mid new → Spares old new
spares_again old mid new size f s = record {
  every = s.every ∙ f.every;
  unmarked = λ p u. f.unmarked p (s.unmarked p u);
  same = λ p q u lt. s.same p q u (subst (λ n. q < n) (sym size) lt) ∙ f.same p q (s.unmarked p u) lt;
}

goes_again : (old mid new : BoardShape) → Goes old mid → Goes mid new → Goes old new
goes_again old mid new (inl e) s = subst (λ b. Goes b new) e s
goes_again old mid new (inr f) (inl e) = subst (Goes old) (sym e) (inr f)
goes_again old mid new (inr f) (inr s) =
    let one : weight mid.pairs.values < weight old.pairs.values = f.0 in
    let two : weight new.pairs.values < weight mid.pairs.values = s.0 in
    inr (omega (arith, one, two), s.1)

-- one lowering after another, where what the second needs follows from the first's start
pub drops_then : (G H : PairShape → Type 0) (old mid new : BoardShape) → ((g : PairShape) → H g → IsUnder g.values old.pairs.values → G g) → Drops H old mid → Drops G mid new → Drops H old new
drops_then G H old mid new weaker f s = record {
  size = s.size ∙ f.size;
  good = s.good;
  more = let one : reached old.pairs.values ≤ reached mid.pairs.values = f.more in let two : reached mid.pairs.values ≤ reached new.pairs.values = s.more in omega (arith, one, two);
  under = λ k. le_trans (value_at new.pairs.values k) (value_at mid.pairs.values k) (value_at old.pairs.values k) (s.under k) (f.under k);
  above = λ g holds under. s.above g (weaker g holds under) (f.above g holds under);
  spares = spares_again old mid new f.size f.spares s.spares;
  goes = goes_again old mid new f.goes s.goes;
}

pub drops_by : (G H : PairShape → Type 0) (old new : BoardShape) → ((g : PairShape) → H g → IsUnder g.values old.pairs.values → G g) → Drops G old new → Drops H old new
drops_by G H old new weaker f = record {
  size = f.size;
  good = f.good;
  more = f.more;
  under = f.under;
  above = λ g holds under. f.above g (weaker g holds under) under;
  spares = f.spares;
  goes = f.goes;
}

-- where an atom has no mark after one was made at p, it is another one
other_mark : (marks : List Bool) (p r : ℕ) → p < length marks → get_or (set marks p true) r true ≡ false → (r ≡ p → ⊥) × (get_or marks r true ≡ false)
other_mark marks p r lt u = elim (cases_eq r p) [
  | inl e ↦ absurd (differ (sym (get_or-set_same marks p true true lt) ∙ subst (λ i. get_or (set marks p true) i true ≡ false) e u))
  | inr ne ↦ (ne, sym (get_or-set_other marks p r true true ne) ∙ u)
]
  where
    differ : true ≡ false → ⊥
    differ e = cc

lowered_spares : (b : BoardShape) (p q : ℕ) (v : Span) → IsGood b → p < b.pairs.atoms → q < b.pairs.atoms → Spares b (lowered b p q v)
lowered_spares b p q v good lp lq = record {
  every = refl;
  unmarked = λ r u. (marks r u).2;
  same = λ r s u lt. get_or-set_other b.pairs.values (pair_place p q) (pair_place r s) v Never (λ e. apart r s u (same_from_pair_place r s p q e));
}
  where
    marks : (r : ℕ) → IsUnmarked (marked (marked b.marks p) q) r → (r ≡ p → ⊥) × (r ≡ q → ⊥) × IsUnmarked b.marks r
    marks r u =
        let second : (r ≡ q → ⊥) × (get_or (set b.marks.atoms p true) r true ≡ false) = other_mark (set b.marks.atoms p true) q r (subst (λ n. q < n) (sym (length-set b.marks.atoms p true ∙ good.marks)) lq) u in
        let first : (r ≡ p → ⊥) × (get_or b.marks.atoms r true ≡ false) = other_mark b.marks.atoms p r (subst (λ n. p < n) (sym good.marks) lp) second.1 in
        (first.0, second.0, first.1)

    apart : (r s : ℕ) → IsUnmarked (marked (marked b.marks p) q) r → IsSamePair r s p q → ⊥
    apart r s u (inl one) = (marks r u).0 one.0
    apart r s u (inr two) = (marks r u).1 two.0

-- one value lowered
pub drops_at : (old new : BoardShape) (p q : ℕ) (v : Span) → IsGood old → IsNextTo old.pairs.values v → p < old.pairs.atoms → q < old.pairs.atoms → LowersPair old new p q v → Drops (λ g. pair_at g p q ≤ˢ v) old new
drops_at old new p q v good next lp lq (inl h) = subst (Drops (λ g. pair_at g p q ≤ˢ v) old) (sym h.1) (record {
  size = refl;
  good = record {
    places = length-set old.pairs.values (pair_place p q) v ∙ good.places;
    marks = length-set (set old.marks.atoms p true) q true ∙ (length-set old.marks.atoms p true ∙ good.marks);
    few = good.few;
    small = set_small old.pairs.values (pair_place p q) v within h.0 good.small next;
  };
  more = set_more old.pairs.values (pair_place p q) v within h.0;
  under = λ k. set_le old.pairs.values (pair_place p q) k v within h.0;
  above = λ g holds under. under_set g.values old.pairs.values (pair_place p q) v within under holds;
  spares = lowered_spares old p q v good lp lq;
  goes = inr (set_lighter old.pairs.values (pair_place p q) v (places_few old good) within h.0 next, refl);
})
  where
    within : pair_place p q < length old.pairs.values
    within = subst (λ n. pair_place p q < n) (sym good.places) (place_within old.pairs.atoms p q lp lq)
drops_at old new p q v good next lp lq (inr h) = drops_same (λ g. pair_at g p q ≤ˢ v) old new h.1 good

pub met_at : (old new : BoardShape) (p q : ℕ) (v : Span) → IsGood old → p < old.pairs.atoms → q < old.pairs.atoms → LowersPair old new p q v → pair_at new.pairs p q ≤ˢ v
met_at old new p q v good lp lq (inl h) =
    subst (λ (b : BoardShape). pair_at b.pairs p q ≤ˢ v) (sym h.1)
    (subst (λ x. x ≤ˢ v) (sym (get_or-set_same old.pairs.values (pair_place p q) v Never (subst (λ n. pair_place p q < n) (sym good.places) (place_within old.pairs.atoms p q lp lq)))) (le_refl v))
met_at old new p q v good lp lq (inr h) = subst (λ (b : BoardShape). pair_at b.pairs p q ≤ˢ v) (sym h.1) h.0

-- one atom more
pub row_more : (p : ℕ) (qs : List ℕ) (v : Span) (old mid new : BoardShape) (n : ℕ)
    → IsNextTo old.pairs.values v → p < old.pairs.atoms → All (λ q. q < old.pairs.atoms) qs → n < length qs
    → LowersRow p qs v old mid n → LowersPair mid new p (get_or qs n 0) v → LowersRow p qs v old new (n + 1)
row_more p qs v old mid new n next lp lqs lt h step = record {
  drops = drops_then (λ g. pair_at g p q ≤ˢ v) (λ g. All (λ r. pair_at g p r ≤ˢ v) qs) old mid new (λ g all under. all n 0 lt) h.drops one;
  met = All-more (λ r. pair_at new.pairs p r ≤ˢ v) qs n 0 lt
      (All-weaker (λ r. pair_at mid.pairs p r ≤ˢ v) (λ r. pair_at new.pairs p r ≤ˢ v) (λ r le. le_trans (pair_at new.pairs p r) (pair_at mid.pairs p r) v (one.under (pair_place p r)) le) (take n qs) h.met)
      (met_at mid new p q v h.drops.good lp' lq step);
}
  where
    q : ℕ
    q = get_or qs n 0

    lp' : p < mid.pairs.atoms
    lp' = subst (λ k. p < k) (sym h.drops.size) lp

    lq : q < mid.pairs.atoms
    lq = subst (λ k. q < k) (sym h.drops.size) (lqs n 0 lt)

    one : Drops (λ g. pair_at g p q ≤ˢ v) mid new
    one = drops_at mid new p q v h.drops.good (next_more (reached old.pairs.values) (reached mid.pairs.values) v h.drops.more next) lp' lq step

-- one row more
pub rows_more : (ps qs : List ℕ) (v : Span) (old mid new : BoardShape) (n : ℕ)
    → n < length ps → LowersRows ps qs v old mid n
    → Drops (λ g. All (λ q. pair_at g (get_or ps n 0) q ≤ˢ v) qs) mid new → All (λ q. pair_at new.pairs (get_or ps n 0) q ≤ˢ v) qs
    → LowersRows ps qs v old new (n + 1)
rows_more ps qs v old mid new n lt h drops met = record {
  drops = drops_then (λ g. All (λ q. pair_at g (get_or ps n 0) q ≤ˢ v) qs) (λ g. AllBelow g ps qs v) old mid new (λ g all under. all n 0 lt) h.drops drops;
  met = All-more (λ p. All (λ q. pair_at new.pairs p q ≤ˢ v) qs) ps n 0 lt
      (All-weaker (λ p. All (λ q. pair_at mid.pairs p q ≤ˢ v) qs) (λ p. All (λ q. pair_at new.pairs p q ≤ˢ v) qs)
      (λ p all. All-weaker (λ q. pair_at mid.pairs p q ≤ˢ v) (λ q. pair_at new.pairs p q ≤ˢ v) (λ q le. le_trans (pair_at new.pairs p q) (pair_at mid.pairs p q) v (drops.under (pair_place p q)) le) qs all)
      (take n ps) h.met)
      met;
}
