-- each right side grows with the table
use Rattle.std.proofs.Common.{◌≡◌, ℕ, ◌<◌, min, inl, inr, List, [], ◌∷◌, ◌++◌, length, Contains, zero, suc, refl, sym, subst, arith}
use Rattle.std.proofs.lemmas.List.Elements.{All-contains, Contains-append_cases}
use Rattle.cpt_task.specs.declared.span.Span.{Span}
use Rattle.cpt_task.specs.declared.span.Span.TheVariants.{At}
use Rattle.cpt_task.specs.declared.task.Action.{Action}
use Rattle.cpt_task.specs.Shape.{TaskShape, InBounds, HasAtomsBelow}
use Rattle.cpt_tables.specs.Spans.{◌≤ˢ◌, ◌+ˢ◌, span_max}
use Rattle.cpt_tables.specs.Shapes.{PairShape, DistShape, pair_at, dist_at, set_span_of, most_dist}
use Rattle.cpt_tables.specs.Admissible.{limit_by_one, limit_beside, limit_by_two, limit_after, IsPairLimit, IsDistLimit}
use Rattle.cpt_tables.specs.Admissible.IsPairLimit.{at_start, by_one, beside, beside_exchanged, by_two}
use Rattle.cpt_tables.specs.Admissible.IsDistLimit.{at_once, later}
use Rattle.cpt_tables.specs.Greatest.{ArePairsBelow, AreDistsBelow}
use Rattle.cpt_tables.proofs.SpanLemmas.{le_refl, le_trans, max_left, max_right, max_le, add_mono}
use Rattle.cpt_tables.proofs.MostLemmas.{le_over, over_le}
use Rattle.cpt_tables.proofs.SetLemmas.{all_from, le_across, across_le}

pub max_mono : (a b c d : Span) → a ≤ˢ c → b ≤ˢ d → span_max a b ≤ˢ span_max c d
max_mono a b c d h k = max_le a b (span_max c d) (le_trans a c (span_max c d) h (max_left c d)) (le_trans b d (span_max c d) k (max_right c d))

pub set_mono : (g h : PairShape) (xs : List ℕ) → ((p q : ℕ) → Contains xs p → Contains xs q → pair_at g p q ≤ˢ pair_at h p q) → set_span_of g xs ≤ˢ set_span_of h xs
set_mono g h xs le = across_le g xs xs (set_span_of h xs) (λ p q hp hq. le_trans (pair_at g p q) (pair_at h p q) (set_span_of h xs) (le p q hp hq) (le_across h xs xs p q hp hq))

-- the needs of an action of the task are atoms
need_below : (t : TaskShape) (c : Action) (p : ℕ) → InBounds t → Contains t.actions c → Contains c.pre p → p < length t.atoms
need_below t c p b has need =
    let below : HasAtomsBelow (length t.atoms) c = All-contains (HasAtomsBelow (length t.atoms)) t.actions c b.actions has in
    All-contains (λ r. r < length t.atoms) c.pre p below.pre need

pub one_grows : (t : TaskShape) (g h : PairShape) (c : Action) → InBounds t → ArePairsBelow t g h → Contains t.actions c → limit_by_one g c ≤ˢ limit_by_one h c
one_grows t g h c b le has =
    add_mono (set_span_of g c.pre) (set_span_of h c.pre) (At c.dur) (set_mono g h c.pre (λ p q hp hq. le p q (need_below t c p b has hp) (need_below t c q b has hq)))

only : (q x : ℕ) → Contains (q ∷ []) x → q ≡ x
only q x (zero, lt, e) = e
only q x (suc k, lt, e) = absurd (omega arith)

pub beside_grows : (t : TaskShape) (g h : PairShape) (c : Action) (q : ℕ) → InBounds t → ArePairsBelow t g h → Contains t.actions c → q < length t.atoms → limit_beside g c q ≤ˢ limit_beside h c q
beside_grows t g h c q b le has lq =
    add_mono (set_span_of g (c.pre ++ q ∷ [])) (set_span_of h (c.pre ++ q ∷ [])) (At c.dur) (set_mono g h (c.pre ++ q ∷ []) (λ r s hr hs. le r s (below r hr) (below s hs)))
  where
    below : (r : ℕ) → Contains (c.pre ++ q ∷ []) r → r < length t.atoms
    below r hr = elim (Contains-append_cases c.pre (q ∷ []) r hr) [ inl need ↦ need_below t c r b has need | inr same ↦ subst (λ x. x < length t.atoms) (only q r same) lq ]

pub two_grows : (t : TaskShape) (g h : PairShape) (c d : Action) → InBounds t → ArePairsBelow t g h → Contains t.actions c → Contains t.actions d → limit_by_two g c d ≤ˢ limit_by_two h c d
two_grows t g h c d b le hc hd =
    max_mono (limit_by_one g c) (span_max (limit_by_one g d) (together g)) (limit_by_one h c) (span_max (limit_by_one h d) (together h)) (one_grows t g h c b le hc)
    (max_mono (limit_by_one g d) (together g) (limit_by_one h d) (together h) (one_grows t g h d b le hd)
    (add_mono (set_span_of g (c.pre ++ d.pre)) (set_span_of h (c.pre ++ d.pre)) (At (min c.dur d.dur)) (set_mono g h (c.pre ++ d.pre) (λ r s hr hs. le r s (below r hr) (below s hs)))))
  where
    together : PairShape → Span
    together k = set_span_of k (c.pre ++ d.pre) +ˢ At (min c.dur d.dur)

    below : (r : ℕ) → Contains (c.pre ++ d.pre) r → r < length t.atoms
    below r hr = elim (Contains-append_cases c.pre d.pre r hr) [ inl need ↦ need_below t c r b hc need | inr need ↦ need_below t d r b hd need ]

to_equal : (a b v : Span) → v ≡ b → a ≤ˢ b → a ≤ˢ v
to_equal a b v e le = subst (λ x. a ≤ˢ x) (sym e) le

-- below each right side over the greater table stands one over the lesser table
pub pair_limit_grows : (t : TaskShape) (g h : PairShape) (p q : ℕ) (v : Span) → InBounds t → ArePairsBelow t g h → p < length t.atoms → q < length t.atoms → IsPairLimit t h p q v → (w : Span) × IsPairLimit t g p q w × (w ≤ˢ v)
pair_limit_grows t g h p q v b le lp lq (at_start m) = (At 0, at_start (m.0, m.1, refl), to_equal (At 0) (At 0) v m.2 (le_refl (At 0)))
pair_limit_grows t g h p q v b le lp lq (by_one m) = (limit_by_one g m.0, by_one (m.0, m.1, m.2, m.3, refl), to_equal (limit_by_one g m.0) (limit_by_one h m.0) v m.4 (one_grows t g h m.0 b le m.1))
pair_limit_grows t g h p q v b le lp lq (beside m) = (limit_beside g m.0 q, beside (m.0, m.1, m.2, m.3, refl), to_equal (limit_beside g m.0 q) (limit_beside h m.0 q) v m.4 (beside_grows t g h m.0 q b le m.1 lq))
pair_limit_grows t g h p q v b le lp lq (beside_exchanged m) = (limit_beside g m.0 p, beside_exchanged (m.0, m.1, m.2, m.3, refl), to_equal (limit_beside g m.0 p) (limit_beside h m.0 p) v m.4 (beside_grows t g h m.0 p b le m.1 lp))
pair_limit_grows t g h p q v b le lp lq (by_two m) = (limit_by_two g m.0 m.1, by_two (m.0, m.1, m.2, m.3, m.4, m.5, m.6, refl), to_equal (limit_by_two g m.0 m.1) (limit_by_two h m.0 m.1) v m.7 (two_grows t g h m.0 m.1 b le m.2 m.3))

pub after_grows : (t : TaskShape) (g d : DistShape) (a : ℕ) (c : Action) → InBounds t → AreDistsBelow t g d → a < length t.actions → Contains t.actions c → limit_after g a c ≤ˢ limit_after d a c
after_grows t g d a c b le la has =
    add_mono (most_dist g a c.pre) (most_dist d a c.pre) (At c.dur)
    (over_le (dist_at g a) c.pre (most_dist d a c.pre) (all_from (λ p. dist_at g a p ≤ˢ most_dist d a c.pre) c.pre
    (λ p need. le_trans (dist_at g a p) (dist_at d a p) (most_dist d a c.pre) (le a p la (need_below t c p b has need)) (le_over (dist_at d a) c.pre p need))))

pub dist_limit_grows : (t : TaskShape) (h : PairShape) (g d : DistShape) (a p : ℕ) (v : Span) → InBounds t → AreDistsBelow t g d → a < length t.actions → IsDistLimit t h d a p v → (w : Span) × IsDistLimit t h g a p w × (w ≤ˢ v)
dist_limit_grows t h g d a p v b le la (at_once once e) = (v, at_once once e, le_refl v)
dist_limit_grows t h g d a p v b le la (later not_once m) = (limit_after g a m.0, later not_once (m.0, m.1, m.2, refl), to_equal (limit_after g a m.0) (limit_after d a m.0) v m.3 (after_grows t g d a m.0 b le la m.1))
