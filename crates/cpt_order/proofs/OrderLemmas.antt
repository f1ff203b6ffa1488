-- what rules 1 to 3 propose
use Rattle.std.proofs.Common.{◌+◌, below_more, arith, MatchOption, Option, Some, None, ◌≡◌, ◌≢◌, All, ℕ, ◌<◌, ◌∷◌, [], List, true, false, length, refl, sym, subst}
use Rattle.cpt_task.specs.declared.span.Span.{Span}
use Rattle.cpt_task.specs.declared.span.Span.TheVariants.{At, Never}
use Rattle.cpt_task.specs.Shape.{TaskShape}
use Rattle.cpt_tables.specs.declared.tables.Tables.{Tables}
use Rattle.cpt_tables.specs.Spans.{◌≤ˢ◌, ◌<ˢ◌, IsBelow}
use Rattle.cpt_tables.proofs.SpanLemmas.{le_refl, le_lt}
use Rattle.cpt_sheet.specs.declared.data.Cand.TheVariants.{Tok, Out}
use Rattle.cpt_sheet.specs.declared.data.Kind.TheVariants.{Act}
use Rattle.cpt_sheet.specs.declared.data.Sheet.{Sheet}
use Rattle.cpt_sheet.specs.declared.data.Step.{Step}
use Rattle.cpt_sheet.specs.declared.data.Step.TheVariants.{R1, R2, R3}
use Rattle.cpt_sheet.specs.View.{lo, hi, before, kind_of}
use Rattle.cpt_sheet.specs.Gaps.{arrival, deadline, CanPrecede}
use Rattle.cpt_sheet.specs.Roles.{Clash}
use Rattle.cpt_calculus.specs.Rules.{IsLegal}
use Rattle.cpt_proposal.specs.Gains.{HasStep1, HasStep2, HasStep3}
use Rattle.cpt_steps.specs.Landing.{IsClosedAt}
use Rattle.cpt_steps.proofs.TightLemmas.{lt_le}
use Rattle.cpt_proposal.proofs.ReaderLemmas.{tok_is}
use Rattle.cpt_waking.proofs.TableLemmas.{clash_swap}
use Rattle.cpt_steps.specs.Tight.{ArrivalsFit}
use Rattle.cpt_proposal.proofs.ReaderLemmas.{each_of}
use Rattle.cpt_order.specs.Best.{IsGain1, IsNoGain1, IsBest1, IsGain2, IsNoGain2, IsBest2}
use Rattle.cpt_store.specs.Stores.{StoreShape}
use Rattle.cpt_index.specs.Lists.{Lists, IsRival}
use Rattle.cpt_proposal.specs.Lent.{CanPropose}
use Rattle.cpt_store.specs.Proposals.{IsProposed}

lt_to_le : (a b : Span) → a <ˢ b → a ≤ˢ b
lt_to_le (At a) (At b) h = omega arith
lt_to_le (At a) Never h = tt
lt_to_le Never b h = absurd h

pub is_proposed1 : (t : TaskShape) (b : Tables) (h : StoreShape) (x y : ℕ) (v : Span) → CanPropose t b h → ArrivalsFit t b h.sheet → before h.sheet x y ≡ true → v ≡ arrival t b h.sheet (Tok x) (Tok y) →
    lo h.sheet (Tok y) <ˢ v → IsProposed (1 ∷ []) t b h.sheet (Tok y) (R1 x y v)
is_proposed1 t b h x y v lent fit order e later = record {
  rule = refl;
  legal = record {
    live = lent.live;
    allowed = record {
      order = order;
      limit = subst (λ w. v ≤ˢ w) e (le_refl v);
      moment = subst (λ w. IsBelow 4000000000000000 w) (sym e) (fit.all (Tok x) (Tok y));
    };
    moves = later;
  };
  lands = refl;
  tight = e;
}

pub is_closed1 : (t : TaskShape) (b : Tables) (h : StoreShape) (y : ℕ) → CanPropose t b h → ((x : ℕ) → x < length h.sheet.tokens → HasStep1 t b h.sheet x y → ⊥) →
    IsClosedAt (1 ∷ []) t b h.sheet (Tok y)
is_closed1 t b h y lent none (R1 x z v) o legal lands =
    let e : z ≡ y = tok_is z y lands in
    none x ((lent.lent.formed.orders x z legal.allowed.order).first)
    (subst (λ k. HasStep1 t b h.sheet x k) e (record { order = legal.allowed.order; later = lt_le (lo h.sheet (Tok z)) v (arrival t b h.sheet (Tok x) (Tok z)) legal.moves legal.allowed.limit }))
is_closed1 t b h y lent none step o legal lands = cc

pub is_proposed2 : (t : TaskShape) (b : Tables) (h : StoreShape) (x y : ℕ) (v : Span) → CanPropose t b h → before h.sheet x y ≡ true → v ≡ deadline t b h.sheet (Tok x) (Tok y) →
    v <ˢ At (hi h.sheet (Tok x)) → IsProposed (2 ∷ []) t b h.sheet (Tok x) (R2 x y v)
is_proposed2 t b h x y v lent order e sooner = record {
  rule = refl;
  legal = record {
    live = lent.live;
    allowed = record { order = order; limit = subst (λ w. w ≤ˢ v) e (le_refl v) };
    moves = sooner;
  };
  lands = refl;
  tight = e;
}

pub is_closed2 : (t : TaskShape) (b : Tables) (h : StoreShape) (x : ℕ) → CanPropose t b h → ((y : ℕ) → y < length h.sheet.tokens → HasStep2 t b h.sheet x y → ⊥) →
    IsClosedAt (2 ∷ []) t b h.sheet (Tok x)
is_closed2 t b h x lent none (R2 z y v) o legal lands =
    let e : z ≡ x = tok_is z x lands in
    none y ((lent.lent.formed.orders z y legal.allowed.order).second)
    (subst (λ k. HasStep2 t b h.sheet k y) e (record { order = legal.allowed.order; sooner = le_lt (deadline t b h.sheet (Tok z) (Tok y)) v (At (hi h.sheet (Tok z))) legal.allowed.limit legal.moves }))
is_closed2 t b h x lent none step o legal lands = cc

pub is_proposed3 : (t : TaskShape) (b : Tables) (h : StoreShape) (x a y : ℕ) → CanPropose t b h → kind_of h.sheet (Tok x) ≡ Act a → IsRival t h.sheet a y → x ≢ y →
    before h.sheet x y ≡ false → (CanPrecede t b h.sheet (Tok y) (Tok x) → ⊥) → IsProposed (3 ∷ []) t b h.sheet (Tok x) (R3 x y)
is_proposed3 t b h x a y lent kind rival different new late = record {
  rule = refl;
  legal = record {
    live = lent.live;
    allowed = record { different = different; clash = subst (λ k. Clash t k (kind_of h.sheet (Tok y))) (sym kind) (clash_swap t (kind_of h.sheet (Tok y)) (Act a) rival); late = late };
    moves = new;
  };
  lands = refl;
  tight = tt;
}

pub is_closed3 : (t : TaskShape) (b : Tables) (h : StoreShape) (x a : ℕ) (l : List ℕ) → CanPropose t b h → kind_of h.sheet (Tok x) ≡ Act a → Lists (IsRival h.task h.sheet a) l →
    All (λ y. HasStep3 t b h.sheet x y → ⊥) l → IsClosedAt (3 ∷ []) t b h.sheet (Tok x)
is_closed3 t b h x a l lent kind lists none (R3 z y) o legal lands = go (tok_is z x lands) legal
  where
    go : z ≡ x → IsLegal t b h.sheet (R3 z y) → ⊥
    go e legal =
        let m : IsLegal t b h.sheet (R3 x y) = subst (λ k. IsLegal t b h.sheet (R3 k y)) e legal in
        let r : IsRival t h.sheet a y = clash_swap t (Act a) (kind_of h.sheet (Tok y)) (subst (λ k. Clash t k (kind_of h.sheet (Tok y))) kind m.allowed.clash) in
        each_of (λ y. HasStep3 t b h.sheet x y → ⊥) y l none (lists.complete y (subst (λ z. IsRival z h.sheet a y) (sym lent.lent.task) r))
        (record { condition = m.allowed; new = m.moves })
is_closed3 t b h x a l lent kind lists none step o legal lands = cc

-- no order is posted from one that is no action
pub no_act3 : (t : TaskShape) (b : Tables) (h : StoreShape) (x : ℕ) → ((y : ℕ) → Clash t (kind_of h.sheet (Tok x)) (kind_of h.sheet (Tok y)) → ⊥) → IsClosedAt (3 ∷ []) t b h.sheet (Tok x)
no_act3 t b h x none (R3 z y) o legal lands = none y (subst (λ k. Clash t (kind_of h.sheet (Tok k)) (kind_of h.sheet (Tok y))) (tok_is z x lands) legal.allowed.clash)
no_act3 t b h x none step o legal lands = cc

-- these rules have no step at an outside action
pub no_out : (t : TaskShape) (b : Tables) (s : Sheet) (a : ℕ) → IsClosedAt (1 ∷ 2 ∷ 3 ∷ []) t b s (Out a)
no_out t b s a (R1 x y v) o legal lands = cc
no_out t b s a (R2 x y v) o legal lands = cc
no_out t b s a (R3 x y) o legal lands = cc
no_out t b s a step o legal lands = cc

-- no gain over what stands is no step
best1_lo : (t : TaskShape) (b : Tables) (s : Sheet) (y i : ℕ) (top : Span) (best : Option Step) → IsBest1 t b s y i top best → lo s (Tok y) ≤ˢ top
best1_lo t b s y i top None h = subst (λ w. lo s (Tok y) ≤ˢ w) (sym h.0) (le_refl (lo s (Tok y)))
best1_lo t b s y i top (Some step) h = h.1

pub best1_more : (t : TaskShape) (b : Tables) (h : StoreShape) (x y i : ℕ) (top v : Span) (best : Option Step) → CanPropose t b h → IsBest1 t b h.sheet y i top best → IsGain1 t b h.sheet x y top v →
    IsProposed (1 ∷ []) t b h.sheet (Tok y) (R1 x y v) × (lo h.sheet (Tok y) ≤ˢ v)
best1_more t b h x y i top v best lent k g =
    let later : lo h.sheet (Tok y) <ˢ v = le_lt (lo h.sheet (Tok y)) top v (best1_lo t b h.sheet y i top best k) g.above in
    (is_proposed1 t b h x y v lent (g.fit lent.live) g.order g.value later, lt_to_le (lo h.sheet (Tok y)) v later)

pub best1_same : (t : TaskShape) (b : Tables) (s : Sheet) (x y : ℕ) (top : Span) (best : Option Step) → IsBest1 t b s y x top best → IsNoGain1 t b s x y top → IsBest1 t b s y (x + 1) top best
best1_same t b s x y top None h n = (h.0, below_more _ _ h.1 (λ k. n.none k.order (subst (λ w. w <ˢ arrival t b s (Tok x) (Tok y)) (sym h.0) k.later)))
best1_same t b s x y top (Some step) h n = h

pub best1_done : (t : TaskShape) (b : Tables) (h : StoreShape) (y : ℕ) (top : Span) (best : Option Step) → CanPropose t b h → IsBest1 t b h.sheet y (length h.sheet.tokens) top best →
    MatchOption best (IsClosedAt (1 ∷ []) t b h.sheet (Tok y)) (IsProposed (1 ∷ []) t b h.sheet (Tok y))
best1_done t b h y top None lent k = is_closed1 t b h y lent k.1
best1_done t b h y top (Some step) lent k = k.0

best2_hi : (t : TaskShape) (b : Tables) (s : Sheet) (x i : ℕ) (top : Span) (best : Option Step) → IsBest2 t b s x i top best → top ≤ˢ At (hi s (Tok x))
best2_hi t b s x i top None h = subst (λ w. w ≤ˢ At (hi s (Tok x))) (sym h.0) (le_refl (At (hi s (Tok x))))
best2_hi t b s x i top (Some step) h = h.1

pub best2_more : (t : TaskShape) (b : Tables) (h : StoreShape) (x y i : ℕ) (top v : Span) (best : Option Step) → CanPropose t b h → IsBest2 t b h.sheet x i top best → IsGain2 t b h.sheet x y top v →
    IsProposed (2 ∷ []) t b h.sheet (Tok x) (R2 x y v) × (v ≤ˢ At (hi h.sheet (Tok x)))
best2_more t b h x y i top v best lent k g =
    let sooner : v <ˢ At (hi h.sheet (Tok x)) = lt_le v top (At (hi h.sheet (Tok x))) g.below (best2_hi t b h.sheet x i top best k) in
    (is_proposed2 t b h x y v lent g.order g.value sooner, lt_to_le v (At (hi h.sheet (Tok x))) sooner)

pub best2_same : (t : TaskShape) (b : Tables) (s : Sheet) (x y : ℕ) (top : Span) (best : Option Step) → IsBest2 t b s x y top best → IsNoGain2 t b s x y top → IsBest2 t b s x (y + 1) top best
best2_same t b s x y top None h n = (h.0, below_more _ _ h.1 (λ k. n.none k.order (subst (λ w. deadline t b s (Tok x) (Tok y) <ˢ w) (sym h.0) k.sooner)))
best2_same t b s x y top (Some step) h n = h

pub best2_done : (t : TaskShape) (b : Tables) (h : StoreShape) (x : ℕ) (top : Span) (best : Option Step) → CanPropose t b h → IsBest2 t b h.sheet x (length h.sheet.tokens) top best →
    MatchOption best (IsClosedAt (2 ∷ []) t b h.sheet (Tok x)) (IsProposed (2 ∷ []) t b h.sheet (Tok x))
best2_done t b h x top None lent k = is_closed2 t b h x lent k.1
best2_done t b h x top (Some step) lent k = k.0

pub best1_next : (t : TaskShape) (b : Tables) (h : StoreShape) (x y : ℕ) (top v top' : Span) (best best' : Option Step) → CanPropose t b h → IsBest1 t b h.sheet y x top best → IsGain1 t b h.sheet x y top v →
    top' ≡ v → best' ≡ Some (R1 x y v) → IsBest1 t b h.sheet y (x + 1) top' best'
best1_next t b h x y top v top' best best' lent k g e f =
    let m = best1_more t b h x y x top v best lent k g in
    subst (λ (z : Option Step). IsBest1 t b h.sheet y (x + 1) top' z) (sym f) (m.0, subst (λ w. lo h.sheet (Tok y) ≤ˢ w) (sym e) m.1)

pub best1_keep : (t : TaskShape) (b : Tables) (s : Sheet) (x y : ℕ) (top top' : Span) (best best' : Option Step) → IsBest1 t b s y x top best → IsNoGain1 t b s x y top → top' ≡ top → best' ≡ best →
    IsBest1 t b s y (x + 1) top' best'
best1_keep t b s x y top top' best best' k n e f =
    subst (λ (z : Option Step). IsBest1 t b s y (x + 1) top' z) (sym f) (subst (λ w. IsBest1 t b s y (x + 1) w best) (sym e) (best1_same t b s x y top best k n))
