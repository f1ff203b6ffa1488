-- searches over right sides of pairs
use Rattle.std.proofs.Common.{◌≡◌, ℕ, ◌+◌, ◌<◌, ◌≤◌, ◌⊎◌, max, min, inl, inr, Option, None, List, get_or, refl, sym, subst, ap, ◌∙◌, arith}
use Rattle.cpt_task.specs.declared.span.Span.{Span}
use Rattle.cpt_task.specs.declared.span.Span.TheVariants.{Never}
use Rattle.cpt_task.specs.declared.task.Action.{Action}
use Rattle.cpt_tables.specs.Spans.{◌≤ˢ◌}
use Rattle.cpt_tables.specs.Shapes.{PairShape, row_start, pair_at}
use Rattle.cpt_tables.proofs.SpanLemmas.{le_trans}
use Rattle.cpt_task.specs.Shape.{TaskShape}
use Rattle.cpt_tables.specs.Admissible.{nth_action, limit_by_two}
use Rattle.cpt_tables.specs.Scans.{sorted, Reaches, Scans, OfPair, ScansPairs, AreMet, IsAmongBoth, IsOfTwo}
use Rattle.cpt_tables.specs.declared.search.Pair.{Pair}
use Rattle.cpt_tables.proofs.ScanLemmas as scans

-- the value of a pair
abbrev pub value_of : PairShape → Pair → Span
value_of h k = pair_at h k.p k.q

-- a search over the first i kinds of right sides
abbrev pub ScansFirst : PairShape → (ℕ → ℕ → ℕ → Span → Type 0) → ℕ → Option Pair → Option Pair → Type 0
ScansFirst h M i old new = Scans Reaches (value_of h) (λ k v. (j : ℕ) × (j < i) × OfPair (M j) k v) old new

pub first_start : (h : PairShape) (M : ℕ → ℕ → ℕ → Span → Type 0) (old : Option Pair) → ScansFirst h M 0 old old
first_start h M old = scans.scans_start Reaches (value_of h) (λ j. OfPair (M j)) old

pub first_more : (h : PairShape) (M : ℕ → ℕ → ℕ → Span → Type 0) (i : ℕ) (old mid new : Option Pair) → ScansFirst h M i old mid → ScansPairs h (M i) mid new → ScansFirst h M (i + 1) old new
first_more h M i old mid new s r = scans.scans_more Reaches (value_of h) (λ j. OfPair (M j)) i old mid new s r

-- nothing was looked at
pub pairs_none : (h : PairShape) (M : ℕ → ℕ → Span → Type 0) (old : Option Pair) → ((p q : ℕ) (v : Span) → M p q v → ⊥) → ScansPairs h M old old
pairs_none h M old none = scans.scans_none Reaches (value_of h) (OfPair M) old (λ k v l. none l.0 l.1 v l.3)

sorted_value : (h : PairShape) (p q : ℕ) → pair_at h (min p q) (max p q) ≡ pair_at h p q
sorted_value h p q =
    let up : max (min p q) (max p q) ≡ max p q = omega arith in
    let down : min (min p q) (max p q) ≡ min p q = omega arith in
    ap (λ k. get_or h.values k Never) (ap (λ m. row_start m + min (min p q) (max p q)) up ∙ ap (λ m. row_start (max p q) + m) down)

-- no right side was passed
pub pairs_met : (h : PairShape) (M : ℕ → ℕ → Span → Type 0) (old : Option Pair) → ((p q : ℕ) (v : Span) → M p q v → pair_at h p q ≤ˢ v) → ScansPairs h M old old
pairs_met h M old met = record {
  lowered = λ k r. r;
  passes = λ k v l. inl (subst (λ x. value_of h x ≤ˢ v) (sym l.2) (subst (λ x. x ≤ˢ v) (sym (sorted_value h l.0 l.1)) (met l.0 l.1 v l.3)));
  origin = inl refl;
}

-- what a search from nothing, which found nothing, says
pub met_if_none : (h : PairShape) (ps qs : List ℕ) (most : Span) → ScansPairs h (IsAmongBoth ps qs most) None None → AreMet h ps qs most
met_if_none h ps qs most s p q hp hq = elim (s.passes (sorted p q) most (p, q, refl, (hp, hq, refl))) [
  | inl le ↦ subst (λ x. x ≤ˢ most) (sorted_value h p q) le
  | inr r ↦ absurd r
]

-- what two actions add is met by a value that is no more than their limit
pub two_met : (h : PairShape) (c d : Action) (most : Span) (old : Option Pair) → most ≤ˢ limit_by_two h c d → AreMet h c.add d.add most → ScansPairs h (IsOfTwo h c d) old old
two_met h c d most old le met = pairs_met h (IsOfTwo h c d) old below
  where
    below : (p q : ℕ) (v : Span) → IsOfTwo h c d p q v → pair_at h p q ≤ˢ v
    below p q v (apart, (hp, hq, e)) = subst (λ x. pair_at h p q ≤ˢ x) (sym e) (le_trans (pair_at h p q) most (limit_by_two h c d) (met p q hp hq) le)

-- the same right sides, said otherwise
pub pairs_same : (h : PairShape) (L M : ℕ → ℕ → Span → Type 0) (old new : Option Pair) → ((p q : ℕ) (v : Span) → L p q v → M p q v) → ((p q : ℕ) (v : Span) → M p q v → L p q v) → ScansPairs h L old new → ScansPairs h M old new
pairs_same h L M old new f g s =
    scans.scans_same Reaches (value_of h) (OfPair L) (OfPair M) old new (λ k v l. (l.0, l.1, l.2, f l.0 l.1 v l.3)) (λ k v m. (m.0, m.1, m.2, g m.0 m.1 v m.3)) s

-- one search after another
pub pairs_both : (h : PairShape) (L M : ℕ → ℕ → Span → Type 0) (old mid new : Option Pair) → ScansPairs h L old mid → ScansPairs h M mid new → ScansPairs h (λ p q v. L p q v ⊎ M p q v) old new
pairs_both h L M old mid new s r =
    scans.scans_same Reaches (value_of h) (λ k v. OfPair L k v ⊎ OfPair M k v) (OfPair (λ p q v. L p q v ⊎ M p q v)) old new up down
    (scans.scans_both Reaches (value_of h) (OfPair L) (OfPair M) old mid new s r)
  where
    up : (k : Pair) (v : Span) → (OfPair L k v ⊎ OfPair M k v) → OfPair (λ p q v. L p q v ⊎ M p q v) k v
    up k v (inl l) = (l.0, l.1, l.2, inl l.3)
    up k v (inr m) = (m.0, m.1, m.2, inr m.3)

    down : (k : Pair) (v : Span) → OfPair (λ p q v. L p q v ⊎ M p q v) k v → OfPair L k v ⊎ OfPair M k v
    down k v (p, q, e, inl l) = inl (p, q, e, l)
    down k v (p, q, e, inr m) = inr (p, q, e, m)

-- at the end of a loop over n kinds of right sides
pub first_all : (h : PairShape) (M : ℕ → ℕ → ℕ → Span → Type 0) (L : ℕ → ℕ → Span → Type 0) (n : ℕ) (old new : Option Pair) →
    ((j : ℕ) → j < n → (p q : ℕ) (v : Span) → M j p q v → L p q v) → ((p q : ℕ) (v : Span) → L p q v → (j : ℕ) × (j < n) × M j p q v) → ScansFirst h M n old new → ScansPairs h L old new
first_all h M L n old new f g s =
    scans.scans_same Reaches (value_of h) (λ k v. (j : ℕ) × (j < n) × OfPair (M j) k v) (OfPair L) old new
    (λ k v l. (l.2.0, l.2.1, l.2.2, f l.0 l.1 l.2.0 l.2.1 v l.2.3))
    (λ k v m. let r : (j : ℕ) × (j < n) × M j m.0 m.1 v = g m.0 m.1 v m.3 in (r.0, r.1, (m.0, m.1, m.2, r.2)))
    s

-- what two actions give, where the second has a number from that of the first on
abbrev pub IsPartner : TaskShape → PairShape → ℕ → ℕ → ℕ → ℕ → Span → Type 0
IsPartner t h i j r s v = (i ≤ j) × IsOfTwo h (nth_action t i) (nth_action t j) r s v

-- a loop that begins at a later number
pub first_start_at : (h : PairShape) (M : ℕ → ℕ → ℕ → Span → Type 0) (i : ℕ) (old : Option Pair) → ((j : ℕ) → j < i → (p q : ℕ) (v : Span) → M j p q v → ⊥) → ScansFirst h M i old old
first_start_at h M i old none = scans.scans_none Reaches (value_of h) (λ k v. (j : ℕ) × (j < i) × OfPair (M j) k v) old (λ k v l. none l.0 l.1 l.2.0 l.2.1 v l.2.3)
