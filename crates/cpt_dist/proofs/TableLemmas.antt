-- from rows to the table
use Rattle.std.proofs.Common.{◌≡◌, ℕ, ◌+◌, ◌*◌, ◌<◌, ◌≤◌, ◌⊎◌, inl, inr, List, length, get_or, refl, sym, ap, subst, ◌∙◌, arith, below_more}
use Rattle.std.proofs.lemmas.List.{get_or_default}
use Rattle.std.proofs.lemmas.List.Elements.{All-contains}
use Rattle.cpt_task.specs.declared.span.Span.{Span}
use Rattle.cpt_task.specs.declared.span.Span.TheVariants.{At, Never}
use Rattle.cpt_task.specs.declared.task.Action.{Action}
use Rattle.cpt_task.specs.Shape.{TaskShape, InBounds, HasAtomsBelow}
use Rattle.cpt_task.specs.Timeline.{idle}
use Rattle.cpt_tables.specs.Spans.{◌≤ˢ◌, IsBelow}
use Rattle.cpt_tables.specs.Shapes.{PairShape, DistShape, dist_at, FitsDists}
use Rattle.cpt_tables.specs.Admissible.{nth_action, IsAtOnce, IsDistLimit, IsAdmissibleDists}
use Rattle.cpt_tables.specs.Admissible.IsDistLimit.{at_once, later}
use Rattle.cpt_tables.specs.Greatest.{IsGreatestDists}
use Rattle.cpt_tables.proofs.SpanLemmas.{le_refl, le_trans, le_never, zero_le}
use Rattle.cpt_tables.proofs.SpanLemmas as Spans
use Rattle.cpt_tables.specs.Weights.{value_at, reached}
use Rattle.cpt_dist.specs.Moving.{IsUnder}
use Rattle.cpt_dist.specs.Rows.{row_limit, IsClosed, IsStart, IsRowOf, HasRow, HasRows, KeepsOthers}
use Rattle.cpt_tables.proofs.WeightLemmas.{reached_few}
use Rattle.cpt_dist.proofs.RowLemmas.{limit_mono}

-- a row more
pub rows_more : (t : TaskShape) (h : PairShape) (old new : DistShape) (a : ℕ) (c : Action) (row : List Span)
    → a < old.actions → c ≡ get_or t.actions a c → a < length t.actions → HasRows t h old a → KeepsOthers old new a → IsRowOf t h c row → HasRow new a row → HasRows t h new (a + 1)
rows_more t h old new a c row within is lt rows keeps of has =
    below_more (λ b. (r : List Span) × IsRowOf t h (nth_action t b) r × HasRow new b r) a
    (λ b less. let had : (r : List Span) × IsRowOf t h (nth_action t b) r × HasRow old b r = rows b less in
    (had.0, had.1, λ p inside. keeps.others b p (omega arith) (subst (λ n. p < n) keeps.atoms inside) (λ e. absurd (omega arith)) ∙ had.2 p (subst (λ n. p < n) keeps.atoms inside)))
    (row, subst (λ x. IsRowOf t h x row) (is ∙ get_or_default t.actions a c idle lt) of, has)

start_cases : (h : PairShape) (a : Action) (p : ℕ) (s : Span) → IsStart h a p s → ((s ≡ At 0) × IsAtOnce h a p) ⊎ ((s ≡ Never) × (IsAtOnce h a p → ⊥))
start_cases h a p (At m) st = inl (ap At st.0, st.1)
start_cases h a p Never st = inr (refl, st)

-- what a row says
pub row_admissible : (t : TaskShape) (h : PairShape) (d : DistShape) (a p : ℕ) (row : List Span) (v : Span)
    → InBounds t → d.atoms ≡ length t.atoms → p < length t.atoms → IsRowOf t h (nth_action t a) row → HasRow d a row → IsDistLimit t h d a p v → dist_at d a p ≤ˢ v
row_admissible t h d a p row v bounds size lt of has limit = subst (λ x. x ≤ˢ v) (sym (has p (subst (λ n. p < n) (sym size) lt))) (go limit)
  where
    go : IsDistLimit t h d a p v → value_at row p ≤ˢ v
    go (at_once once e) = subst (λ x. value_at row p ≤ˢ x) (sym e) (le_trans (value_at row p) (value_at of.start p) (At 0) (of.lowered.falls.under p) (at_zero (start_cases h (nth_action t a) p (value_at of.start p) (of.started p lt))))
      where
        at_zero : ((value_at of.start p ≡ At 0) × IsAtOnce h (nth_action t a) p) ⊎ ((value_at of.start p ≡ Never) × (IsAtOnce h (nth_action t a) p → ⊥)) → value_at of.start p ≤ˢ At 0
        at_zero (inl zero) = subst (λ x. x ≤ˢ At 0) (sym zero.0) (le_refl (At 0))
        at_zero (inr never) = absurd (never.1 once)
    go (later not by) = subst (λ x. value_at row p ≤ˢ x) (sym by.3)
        (le_trans (value_at row p) (row_limit (value_at row) by.0) (row_limit (dist_at d a) by.0)
        (of.lowered.closed by.0 by.1 p by.2)
        (limit_mono (value_at row) (dist_at d a) by.0 (λ x in'. same x (All-contains (λ q. q < length t.atoms) by.0.pre x (All-contains (HasAtomsBelow (length t.atoms)) t.actions by.0 bounds.actions by.1).pre in'))))
      where
        same : (x : ℕ) → x < length t.atoms → value_at row x ≤ˢ dist_at d a x
        same x inside = subst (λ y. y ≤ˢ dist_at d a x) (has x (subst (λ n. x < n) (sym size) inside)) (le_refl (dist_at d a x))

pub row_greatest : (t : TaskShape) (h : PairShape) (d g : DistShape) (a p : ℕ) (row : List Span)
    → InBounds t → d.atoms ≡ length t.atoms → a < length t.actions → p < length t.atoms → IsRowOf t h (nth_action t a) row → HasRow d a row → IsAdmissibleDists t h g → dist_at g a p ≤ˢ dist_at d a p
row_greatest t h d g a p row bounds size within lt of has good =
    subst (λ x. dist_at g a p ≤ˢ x) (sym (has p (subst (λ n. p < n) (sym size) lt)))
    (of.lowered.falls.above (dist_at g a) closed under p (subst (λ n. p < n) (sym of.size) lt))
  where
    cases : (q : ℕ) → q < length t.atoms → ((value_at of.start q ≡ At 0) × IsAtOnce h (nth_action t a) q) ⊎ ((value_at of.start q ≡ Never) × (IsAtOnce h (nth_action t a) q → ⊥))
    cases q inside = start_cases h (nth_action t a) q (value_at of.start q) (of.started q inside)

    under : IsUnder (dist_at g a) of.start
    under q inside = elim (cases q (subst (λ n. q < n) of.started_size inside)) [
      | inl zero ↦ subst (λ x. dist_at g a q ≤ˢ x) (sym zero.0) (good a q within (subst (λ n. q < n) of.started_size inside) (At 0) (at_once zero.1 refl))
      | inr never ↦ subst (λ x. dist_at g a q ≤ˢ x) (sym never.0) (le_never (dist_at g a q))
    ]

    closed : IsClosed t.actions (dist_at g a)
    closed c in' q adds =
        let inside : q < length t.atoms = All-contains (λ r. r < length t.atoms) c.add q (All-contains (HasAtomsBelow (length t.atoms)) t.actions c bounds.actions in').add adds in
        elim (cases q inside) [
          | inl zero ↦ le_trans (dist_at g a q) (At 0) (row_limit (dist_at g a) c) (good a q within inside (At 0) (at_once zero.1 refl)) (zero_le (row_limit (dist_at g a) c))
          | inr never ↦ good a q within inside (row_limit (dist_at g a) c) (later never.1 (c, in', adds, refl))
        ]

pub greatest_by_rows : (t : TaskShape) (h : PairShape) (d : DistShape) → InBounds t → d.atoms ≡ length t.atoms → HasRows t h d (length t.actions) → IsGreatestDists t h d
greatest_by_rows t h d bounds size rows = record {
  admissible = λ a p within lt v limit. row_admissible t h d a p (rows a within).0 v bounds size lt (rows a within).1 (rows a within).2 limit;
  greatest = λ g good a p within lt. row_greatest t h d g a p (rows a within).0 bounds size within lt (rows a within).1 (rows a within).2 good;
}

pub fits_by_rows : (t : TaskShape) (h : PairShape) (d : DistShape) → length t.atoms ≤ 2048 → d.actions ≡ length t.actions → d.atoms ≡ length t.atoms → HasRows t h d (length t.actions) → FitsDists t d
fits_by_rows t h d few count size rows = record {
  actions = count;
  atoms = size;
  small = λ a p la lp. small a p (subst (λ n. a < n) count la) lp;
}
  where
    small : (a p : ℕ) → a < length t.actions → p < d.atoms → IsBelow 1000000000000000 (dist_at d a p)
    small a p la lp =
        let r : (row : List Span) × IsRowOf t h (nth_action t a) row × HasRow d a row = rows a la in
        let count : reached r.0 ≤ length r.0 = reached_few r.0 in
        let long : length r.0 ≡ length t.atoms = r.1.size in
        subst (IsBelow 1000000000000000) (sym (r.2 p lp))
        (Spans.below_more (100000 * reached r.0 + 1) 1000000000000000 (value_at r.0 p) (omega (arith, count, long, few)) (r.1.lowered.falls.small p Never (subst (λ n. p < n) (size ∙ sym long) lp)))
