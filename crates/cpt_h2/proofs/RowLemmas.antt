-- laws of rows and spans that were read from a table before
use Rattle.std.proofs.Common.{◌≡◌, ℕ, suc, ◌+◌, ◌*◌, ◌<◌, ◌≤◌, min, List, [], ◌∷◌, ◌++◌, inl, inr, length, get_or, set, All, Contains, sym, subst, ap, ◌∙◌, arith}
use Rattle.std.proofs.lemmas.Bool.{cases_eq}
use Rattle.std.proofs.lemmas.List.{get_or-set_other, get_or-set_same}
use Rattle.std.proofs.lemmas.List.Elements.{All-contains}
use Rattle.cpt_task.specs.declared.span.Span.{Span}
use Rattle.cpt_task.specs.declared.span.Span.TheVariants.{At, Never}
use Rattle.cpt_task.specs.declared.task.Action.{Action}
use Rattle.cpt_tables.specs.Spans.{◌≤ˢ◌, ◌+ˢ◌, span_max, IsBelow}
use Rattle.cpt_tables.specs.Shapes.{PairShape, pair_at, pair_place, most_over, most_with, most_across, set_span_of}
use Rattle.cpt_tables.specs.Admissible.{limit_by_two, limit_beside}
use Rattle.cpt_tables.specs.Weights.{value_at, reached}
use Rattle.cpt_tables.proofs.SpanLemmas.{le_refl, le_trans, max_left, max_zero, add_mono, below_more}
use Rattle.cpt_tables.proofs.MostLemmas.{le_over, over_le, below_over}
use Rattle.cpt_tables.proofs.PlaceLemmas.{pair_exchanged}
use Rattle.cpt_h2.specs.Board.{BoardShape, IsGood, IsWithin, Drops}
use Rattle.cpt_h2.specs.Rules.{Concerns, action_of}
use Rattle.cpt_h2.specs.Rules.Rule.{beside, two}
use Rattle.cpt_h2.specs.Rows.{IsRowOf, IsAtMost, IsRowOver, IsRowUnder, IsSpanOver, IsRead, IsFrom, AreSpansOver, AreSpansUnder, limit_of_parts}
use Rattle.cpt_h2.proofs.LimitLemmas.{le_across, across_le, all_of, across_small, below_only, span_both, span_and}
use Rattle.cpt_h2.proofs.RuleLemmas.{set_mono, max_mono}

pub most_same : (h : PairShape) → IsAtMost h h
most_same h k = le_refl (value_at h.values k)

pub most_again : (f g h : PairShape) → IsAtMost f g → IsAtMost g h → IsAtMost f h
most_again f g h low high k = le_trans (value_at f.values k) (value_at g.values k) (value_at h.values k) (low k) (high k)

with_mono : (g h : PairShape) (ps : List ℕ) (q : ℕ) → IsAtMost g h → most_with g ps q ≤ˢ most_with h ps q
with_mono g h ps q most = over_le (pair_at g q) ps (most_with h ps q) (all_of (λ x. pair_at g q x ≤ˢ most_with h ps q) ps
    (λ x hx. le_trans (pair_at g q x) (pair_at h q x) (most_with h ps q) (most (pair_place q x)) (le_over (pair_at h q) ps x hx)))

span_mono : (g h : PairShape) (ps : List ℕ) → IsAtMost g h → set_span_of g ps ≤ˢ set_span_of h ps
span_mono g h ps most = set_mono g h ps (λ x y hx hy. most (pair_place x y))

with_small : (b : BoardShape) (ps : List ℕ) (q : ℕ) → IsGood b → All (λ p. p < b.pairs.atoms) ps → q < b.pairs.atoms → IsBelow (100000 * reached b.pairs.values + 1) (most_with b.pairs ps q)
with_small b ps q good within lt =
    subst (IsBelow (100000 * reached b.pairs.values + 1)) (max_zero (most_with b.pairs ps q)) (across_small b (q ∷ []) ps good (below_only b.pairs.atoms q lt) within)

-- a row that has just been read
pub row_over : (b : BoardShape) (ps : List ℕ) (row : List Span) → IsGood b → All (λ p. p < b.pairs.atoms) ps → IsRowOf b.pairs ps row → IsRowOver b ps row
row_over b ps row good within is = record {
  size = is.size;
  over = λ q lt. subst (λ v. most_with b.pairs ps q ≤ˢ v) (sym (is.values q lt)) (le_refl (most_with b.pairs ps q));
  small = λ q lt. subst (IsBelow (100000 * reached b.pairs.values + 1)) (sym (is.values q lt)) (with_small b ps q good within lt);
}

pub row_under : (g h : PairShape) (ps : List ℕ) (row : List Span) → IsAtMost g h → IsRowOf g ps row → IsRowUnder h ps row
row_under g h ps row most is q lt = subst (λ v. v ≤ˢ most_with h ps q) (sym (is.values q (subst (λ n. q < n) is.size lt))) (with_mono g h ps q most)

below_later : (old new : BoardShape) (v : Span) → reached old.pairs.values ≤ reached new.pairs.values → IsBelow (100000 * reached old.pairs.values + 1) v → IsBelow (100000 * reached new.pairs.values + 1) v
below_later old new v more small = below_more (100000 * reached old.pairs.values + 1) (100000 * reached new.pairs.values + 1) v (omega arith) small

-- what was read stays at least what the table says, as the table is lowered
pub span_later : (G : PairShape → Type 0) (old new : BoardShape) (ps : List ℕ) (v : Span) → Drops G old new → IsSpanOver old ps v → IsSpanOver new ps v
span_later G old new ps v drops is = record {
  over = le_trans (set_span_of new.pairs ps) (set_span_of old.pairs ps) v (span_mono new.pairs old.pairs ps drops.under) is.over;
  small = below_later old new v drops.more is.small;
}

row_later : (G : PairShape → Type 0) (old new : BoardShape) (ps : List ℕ) (row : List Span) → Drops G old new → IsRowOver old ps row → IsRowOver new ps row
row_later G old new ps row drops is = record {
  size = is.size ∙ sym drops.size;
  over = λ q lt. le_trans (most_with new.pairs ps q) (most_with old.pairs ps q) (value_at row q) (with_mono new.pairs old.pairs ps q drops.under) (is.over q (subst (λ n. q < n) drops.size lt));
  small = λ q lt. below_later old new (value_at row q) drops.more (is.small q (subst (λ n. q < n) drops.size lt));
}

pub read_later : (G : PairShape → Type 0) (old new : BoardShape) (c : Action) (own : Span) (reach tops : List Span) → Drops G old new → IsRead old c own reach tops → IsRead new c own reach tops
read_later G old new c own reach tops drops is = record {
  begin = span_later G old new c.pre own drops is.begin;
  near = row_later G old new c.pre reach drops is.near;
  top = row_later G old new c.add tops drops is.top;
}

pub spans_later : (G : PairShape → Type 0) (old new : BoardShape) (actions : List Action) (spans : List Span) (n : ℕ) → Drops G old new → AreSpansOver old actions spans n → AreSpansOver new actions spans n
spans_later G old new actions spans n drops are j lt = span_later G old new (action_of actions j).pre (value_at spans j) drops (are j lt)

pub from_later : (G : PairShape → Type 0) (h : PairShape) (old new : BoardShape) (c : Action) (own : Span) (reach : List Span) → Drops G old new → IsFrom h old.pairs c own reach → IsFrom h new.pairs c own reach
from_later G h old new c own reach drops is = record { above = most_again new.pairs old.pairs h drops.under is.above; begin = is.begin; near = is.near }

-- one span more
pub spans_more : (b : BoardShape) (actions : List Action) (spans : List Span) (k : ℕ) (v : Span) → k < length spans → AreSpansOver b actions spans k → IsSpanOver b (action_of actions k).pre v → AreSpansOver b actions (set spans k v) (suc k)
spans_more b actions spans k v within are is j lt = elim (cases_eq j k) [
  | inl e ↦ subst (λ i. IsSpanOver b (action_of actions i).pre (value_at (set spans k v) i)) (sym e) (subst (IsSpanOver b (action_of actions k).pre) (sym (get_or-set_same spans k v Never within)) is)
  | inr ne ↦ subst (IsSpanOver b (action_of actions j).pre) (sym (get_or-set_other spans k j v Never ne)) (are j (omega arith))
]

pub under_more : (h : PairShape) (actions : List Action) (spans : List Span) (k : ℕ) (v : Span) → k < length spans → AreSpansUnder h actions spans k → v ≤ˢ set_span_of h (action_of actions k).pre → AreSpansUnder h actions (set spans k v) (suc k)
under_more h actions spans k v within are is j lt = elim (cases_eq j k) [
  | inl e ↦ subst (λ i. value_at (set spans k v) i ≤ˢ set_span_of h (action_of actions i).pre) (sym e) (subst (λ x. x ≤ˢ set_span_of h (action_of actions k).pre) (sym (get_or-set_same spans k v Never within)) is)
  | inr ne ↦ subst (λ x. x ≤ˢ set_span_of h (action_of actions j).pre) (sym (get_or-set_other spans k j v Never ne)) (are j (omega arith))
]

pub span_now : (b : BoardShape) (ps : List ℕ) (v : Span) → v ≡ set_span_of b.pairs ps → IsBelow (100000 * reached b.pairs.values + 1) v → IsSpanOver b ps v
span_now b ps v e small = record { over = subst (λ x. set_span_of b.pairs ps ≤ˢ x) (sym e) (le_refl (set_span_of b.pairs ps)); small = small }

pub span_under : (g h : PairShape) (ps : List ℕ) (v : Span) → IsAtMost g h → v ≡ set_span_of g ps → v ≤ˢ set_span_of h ps
span_under g h ps v most e = subst (λ x. x ≤ˢ set_span_of h ps) (sym e) (span_mono g h ps most)

-- the greatest value across two lists, by the row of the first
across_by_row : (b : BoardShape) (ps qs : List ℕ) (row : List Span) → IsRowOver b ps row → All (λ q. q < b.pairs.atoms) qs → most_across b.pairs ps qs ≤ˢ most_over (value_at row) qs
across_by_row b ps qs row is within = across_le b.pairs ps qs (most_over (value_at row) qs) (λ x y hx hy.
    subst (λ v. v ≤ˢ most_over (value_at row) qs) (pair_exchanged b.pairs y x)
    (le_trans (pair_at b.pairs y x) (most_with b.pairs ps y) (most_over (value_at row) qs) (le_over (pair_at b.pairs y) ps x hx)
    (le_trans (most_with b.pairs ps y) (value_at row y) (most_over (value_at row) qs) (is.over y (All-contains (λ q. q < b.pairs.atoms) qs y within hy)) (le_over (value_at row) qs y hy))))

row_by_across : (h : PairShape) (ps qs : List ℕ) (row : List Span) → IsRowUnder h ps row → All (λ q. q < length row) qs → most_over (value_at row) qs ≤ˢ most_across h ps qs
row_by_across h ps qs row is within = over_le (value_at row) qs (most_across h ps qs) (all_of (λ y. value_at row y ≤ˢ most_across h ps qs) qs (λ y hy.
    le_trans (value_at row y) (most_with h ps y) (most_across h ps qs) (is y (All-contains (λ q. q < length row) qs y within hy))
    (over_le (pair_at h y) ps (most_across h ps qs) (all_of (λ x. pair_at h y x ≤ˢ most_across h ps qs) ps (λ x hx.
    subst (λ v. v ≤ˢ most_across h ps qs) (pair_exchanged h x y) (le_across h ps qs x y hx hy))))))

pub row_small : (b : BoardShape) (ps qs : List ℕ) (row : List Span) → IsRowOver b ps row → All (λ q. q < b.pairs.atoms) qs → IsBelow (100000 * reached b.pairs.values + 1) (most_over (value_at row) qs)
row_small b ps qs row is within = below_over (100000 * reached b.pairs.values + 1) (value_at row) qs (omega arith) (λ k d lt. is.small (get_or qs k d) (within k d lt))

-- limits of parts
parts_mono : (c d : Action) (a b x i j y : Span) → a ≤ˢ i → b ≤ˢ j → x ≤ˢ y → limit_of_parts c d a b x ≤ˢ limit_of_parts c d i j y
parts_mono c d a b x i j y ha hb hx =
    max_mono (a +ˢ At c.dur) (span_max (b +ˢ At d.dur) (span_max a (span_max b x) +ˢ At (min c.dur d.dur))) (i +ˢ At c.dur) (span_max (j +ˢ At d.dur) (span_max i (span_max j y) +ˢ At (min c.dur d.dur)))
    (add_mono a i (At c.dur) ha)
    (max_mono (b +ˢ At d.dur) (span_max a (span_max b x) +ˢ At (min c.dur d.dur)) (j +ˢ At d.dur) (span_max i (span_max j y) +ˢ At (min c.dur d.dur))
    (add_mono b j (At d.dur) hb)
    (add_mono (span_max a (span_max b x)) (span_max i (span_max j y)) (At (min c.dur d.dur)) (max_mono a (span_max b x) i (span_max j y) ha (max_mono b x j y hb hx))))

parts_of_two : (h : PairShape) (c d : Action) → limit_of_parts c d (set_span_of h c.pre) (set_span_of h d.pre) (most_across h c.pre d.pre) ≡ limit_by_two h c d
parts_of_two h c d = ap (λ s. span_max (set_span_of h c.pre +ˢ At c.dur) (span_max (set_span_of h d.pre +ˢ At d.dur) (s +ˢ At (min c.dur d.dur)))) (sym (span_both h c.pre d.pre))

pub parts_of : (c d : Action) (own other across : Span) (reach : List Span) (qs : List ℕ) (v : Span) → v ≡ limit_of_parts c d own other across → across ≡ most_over (value_at reach) qs → qs ≡ d.pre
    → v ≡ limit_of_parts c d own other (most_over (value_at reach) d.pre)
parts_of c d own other across reach qs v is far same = is ∙ ap (λ x. limit_of_parts c d own other x) (far ∙ ap (λ xs. most_over (value_at reach) xs) same)

pub all_within : (m n : ℕ) (qs : List ℕ) → n ≡ m → All (λ q. q < m) qs → All (λ q. q < n) qs
all_within m n qs e all = subst (λ k. All (λ q. q < k) qs) (sym e) all

-- the limit of what was read is at least that of the board's table
pub parts_enough : (b : BoardShape) (c d : Action) (own other : Span) (reach tops : List Span) → IsRead b c own reach tops → IsSpanOver b d.pre other → IsWithin b.pairs.atoms d
    → limit_by_two b.pairs c d ≤ˢ limit_of_parts c d own other (most_over (value_at reach) d.pre)
parts_enough b c d own other reach tops read over within =
    subst (λ v. v ≤ˢ limit_of_parts c d own other (most_over (value_at reach) d.pre)) (parts_of_two b.pairs c d)
    (parts_mono c d (set_span_of b.pairs c.pre) (set_span_of b.pairs d.pre) (most_across b.pairs c.pre d.pre) own other (most_over (value_at reach) d.pre)
    read.begin.over over.over (across_by_row b c.pre d.pre reach read.near within.atoms.pre))

-- and at most that of the table that it was read from
pub parts_most : (h g : PairShape) (c d : Action) (own other : Span) (reach : List Span) → IsFrom h g c own reach → other ≤ˢ set_span_of h d.pre → All (λ q. q < length reach) d.pre
    → limit_of_parts c d own other (most_over (value_at reach) d.pre) ≤ˢ limit_by_two h c d
parts_most h g c d own other reach from under within =
    subst (λ v. limit_of_parts c d own other (most_over (value_at reach) d.pre) ≤ˢ v) (parts_of_two h c d)
    (parts_mono c d own other (most_over (value_at reach) d.pre) (set_span_of h c.pre) (set_span_of h d.pre) (most_across h c.pre d.pre)
    from.begin under (row_by_across h c.pre d.pre reach from.near within))

-- pairs that the row of what an action adds shows to be low enough
pub met_by_tops : (b : BoardShape) (c d : Action) (tops : List Span) (v : Span) → IsRowOver b c.add tops → All (λ q. q < b.pairs.atoms) d.add → All (λ q. value_at tops q ≤ˢ v) d.add
    → (p q : ℕ) → Concerns (two c d) p q → pair_at b.pairs p q ≤ˢ v
met_by_tops b c d tops v is within below p q con = top_le b c.add tops v p q is (All-contains (λ y. y < b.pairs.atoms) d.add q within con.1) con.0 (All-contains (λ y. value_at tops y ≤ˢ v) d.add q below con.1)
  where
    top_le : (b : BoardShape) (ps : List ℕ) (tops : List Span) (v : Span) (p q : ℕ) → IsRowOver b ps tops → q < b.pairs.atoms → Contains ps p → value_at tops q ≤ˢ v → pair_at b.pairs p q ≤ˢ v
    top_le b ps tops v p q is lt has le =
        subst (λ x. x ≤ˢ v) (pair_exchanged b.pairs q p)
        (le_trans (pair_at b.pairs q p) (most_with b.pairs ps q) v (le_over (pair_at b.pairs q) ps p has) (le_trans (most_with b.pairs ps q) (value_at tops q) v (is.over q lt) le))

-- the same beside an atom
pub beside_met : (b : BoardShape) (h : PairShape) (c : Action) (q : ℕ) (own : Span) (reach tops : List Span) → IsRead b c own reach tops → IsFrom h b.pairs c own reach → q < b.pairs.atoms
    → value_at tops q ≤ˢ span_max own (value_at reach q) +ˢ At c.dur → (p r : ℕ) → Concerns (beside c q) p r → pair_at b.pairs p r ≤ˢ limit_beside h c q
beside_met b h c q own reach tops read from lt below p r con =
    subst (λ x. pair_at b.pairs p x ≤ˢ limit_beside h c q) (sym con.2)
    (le_trans (pair_at b.pairs p q) (value_at tops q) (limit_beside h c q)
    (subst (λ x. x ≤ˢ value_at tops q) (pair_exchanged b.pairs q p) (le_trans (pair_at b.pairs q p) (most_with b.pairs c.add q) (value_at tops q) (le_over (pair_at b.pairs q) c.add p con.0) (read.top.over q lt)))
    (le_trans (value_at tops q) (span_max own (value_at reach q) +ˢ At c.dur) (limit_beside h c q) below
    (add_mono (span_max own (value_at reach q)) (set_span_of h (c.pre ++ q ∷ [])) (At c.dur) spans)))
  where
    spans : span_max own (value_at reach q) ≤ˢ set_span_of h (c.pre ++ q ∷ [])
    spans = subst (λ v. span_max own (value_at reach q) ≤ˢ v) (sym (span_and h c.pre q))
        (max_mono own (value_at reach q) (set_span_of h c.pre) (span_max (most_with h c.pre q) (pair_at h q q)) from.begin
        (le_trans (value_at reach q) (most_with h c.pre q) (span_max (most_with h c.pre q) (pair_at h q q)) (from.near q (subst (λ n. q < n) (sym read.near.size) lt)) (max_left (most_with h c.pre q) (pair_at h q q))))

-- the action and its span by other names
pub read_named : (b : BoardShape) (c d : Action) (own other : Span) (reach tops : List Span) → c ≡ d → own ≡ other → IsRead b c own reach tops → IsRead b d other reach tops
read_named b c d own other reach tops e f is = subst (λ v. IsRead b d v reach tops) f (subst (λ a. IsRead b a own reach tops) e is)

pub from_named : (h g : PairShape) (c d : Action) (own other : Span) (reach : List Span) → c ≡ d → own ≡ other → IsFrom h g c own reach → IsFrom h g d other reach
from_named h g c d own other reach e f is = subst (λ v. IsFrom h g d v reach) f (subst (λ a. IsFrom h g a own reach) e is)

-- what has just been read of an action
pub read_now : (b : BoardShape) (c : Action) (own : Span) (reach tops : List Span) → IsGood b → IsWithin b.pairs.atoms c → IsSpanOver b c.pre own → IsRowOf b.pairs c.pre reach → IsRowOf b.pairs c.add tops → IsRead b c own reach tops
read_now b c own reach tops good within begin near top = record { begin = begin; near = row_over b c.pre reach good within.atoms.pre near; top = row_over b c.add tops good within.atoms.add top }

pub from_now : (h g : PairShape) (c : Action) (own : Span) (reach : List Span) → IsAtMost g h → own ≤ˢ set_span_of h c.pre → IsRowOf g c.pre reach → IsFrom h g c own reach
from_now h g c own reach above begin near = record { above = above; begin = begin; near = row_under g h c.pre reach above near }

-- the span that was read of the action of number k, by other names
pub begin_named : (b : BoardShape) (actions : List Action) (spans : List Span) (k : ℕ) (c : Action) (own : Span) → c ≡ action_of actions k → own ≡ value_at spans k → AreSpansOver b actions spans (suc k) → IsSpanOver b c.pre own
begin_named b actions spans k c own e f are = subst (λ v. IsSpanOver b c.pre v) (sym f) (subst (λ (a : Action). IsSpanOver b a.pre (value_at spans k)) (sym e) (are k (omega arith)))

pub begin_under : (h : PairShape) (actions : List Action) (spans : List Span) (k : ℕ) (c : Action) (own : Span) → c ≡ action_of actions k → own ≡ value_at spans k → AreSpansUnder h actions spans (suc k) → own ≤ˢ set_span_of h c.pre
begin_under h actions spans k c own e f are = subst (λ v. v ≤ˢ set_span_of h c.pre) (sym f) (subst (λ (a : Action). value_at spans k ≤ˢ set_span_of h a.pre) (sym e) (are k (omega arith)))

pub span_is : (h : PairShape) (ps : List ℕ) (c d : Action) (v : Span) → v ≡ set_span_of h ps → ps ≡ c.pre → c ≡ d → v ≡ set_span_of h d.pre
span_is h ps c d v is same e = is ∙ (ap (λ xs. set_span_of h xs) same ∙ ap (λ (a : Action). set_span_of h a.pre) e)
