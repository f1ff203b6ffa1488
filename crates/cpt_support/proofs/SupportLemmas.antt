-- what rules 4 to 7 propose
use Rattle.std.proofs.Common.{inl, inr, ◌+◌, ◌≡◌, ◌≢◌, All, ℕ, ◌<◌, List, Bool, true, false, length, slice_index_or, if◌then◌else◌, refl, sym, ◌∙◌, ap, subst, arith}
use Rattle.std.proofs.lemmas.List.Elements.{All-contains}
use Rattle.cpt_task.specs.declared.span.Span.{Span}
use Rattle.cpt_task.specs.declared.span.Span.TheVariants.{At, Never}
use Rattle.cpt_task.specs.Shape.{TaskShape}
use Rattle.cpt_tables.specs.declared.tables.Tables.{Tables}
use Rattle.cpt_tables.specs.Spans.{◌≤ˢ◌, ◌<ˢ◌, IsBelow, span_min}
use Rattle.cpt_tables.proofs.SpanLemmas.{le_cases, lt_not_le, le_never}
use Rattle.cpt_sheet.specs.declared.data.Cand.{Cand}
use Rattle.cpt_sheet.specs.declared.data.Cand.TheVariants.{Tok, Out}
use Rattle.cpt_sheet.specs.declared.data.Sheet.{Sheet}
use Rattle.cpt_sheet.specs.declared.data.Step.TheVariants.{R4, R5, R6, R7}
use Rattle.cpt_sheet.specs.View.{lo, hi, before, kind_of, cands, has, span_of}
use Rattle.cpt_sheet.specs.Gaps.{arrival, CanPrecede, ordered}
use Rattle.cpt_sheet.specs.Live.{IsShut, IsOpen}
use Rattle.cpt_sheet.specs.Roles.{adds_of}
use Rattle.cpt_calculus.specs.Rules.{IsLegal, IsStep7, IsToken, only}
use Rattle.cpt_proposal.specs.Gains.{HasStep4, HasStep6}
use Rattle.cpt_steps.specs.Landing.{IsClosedAt}
use Rattle.cpt_steps.proofs.TightLemmas.{lt_le}
use Rattle.cpt_steps.proofs.LandingLemmas.{need_there}
use Rattle.cpt_proposal.proofs.ReaderLemmas.{tok_is, each_listed}
use Rattle.cpt_steps.specs.Tight.{IsBeforeAll, ArrivalsFit}
use Rattle.cpt_store.specs.Stores.{StoreShape}
use Rattle.cpt_proposal.specs.Least.{IsLeast}
use Rattle.cpt_index.specs.Lists.{Lists, Covers, IsConsumer, IsNeed}
use Rattle.cpt_proposal.specs.Lent.{CanPropose}
use Rattle.cpt_store.specs.Proposals.{IsProposed}
use Rattle.cpt_sheet.proofs.EachLemmas.{each_more}
use Rattle.cpt_proposal.proofs.LeastLemmas.{least_none, least_more}
use Rattle.cpt_proposal.proofs.ReaderLemmas.{each_of, need_of, one_listed, one_need, one_only, one_same, has_at, token_open}
use Rattle.cpt_support.specs.NoStep.{support_rules, PostsNone, IsKept, IsSupplied, IsPassed, IsPassedTo, listed_arrival}

pub is_proposed6 : (t : TaskShape) (b : Tables) (h : StoreShape) (x p y z : ℕ) → CanPropose t b h → IsToken (cands h.sheet x p) z → z ≡ y → before h.sheet y x ≡ false →
    IsProposed support_rules t b h.sheet (Tok y) (R6 x p)
is_proposed6 t b h x p y z lent one e new =
    let o : only (cands h.sheet x p) ≡ y = one_only h.sheet x p z one ∙ e in
    record {
      rule = refl;
      legal = record { live = lent.live; allowed = record { need = one_need h.sheet x p z one; one = (z, one) }; moves = subst (λ k. before h.sheet k x ≡ false) (sym o) new };
      lands = ap Tok o;
      tight = tt;
    }

pub is_other6 : (s : Sheet) (x p y z : ℕ) → IsToken (cands s x p) z → z ≢ y → HasStep6 s x p y → ⊥
is_other6 s x p y z one n h = n (one_same s x p z y one h.one)

pub is_old6 : (s : Sheet) (x p y : ℕ) → before s y x ≡ true → HasStep6 s x p y → ⊥
is_old6 s x p y e h = let k = sym e ∙ h.new in cc

pub is_none6 : (s : Sheet) (x p y : ℕ) → ((z : ℕ) → IsToken (cands s x p) z → ⊥) → HasStep6 s x p y → ⊥
is_none6 s x p y n h = n y h.one

pub posts_none : (s : Sheet) (y p : ℕ) (l : List ℕ) → Lists (IsConsumer s p) l → All (λ x. HasStep6 s x p y → ⊥) l → PostsNone s y p
posts_none s y p l lists none = record { none = λ x k. each_of (λ x. HasStep6 s x p y → ⊥) x l none (lists.complete x k.need) k }

pub is_proposed7 : (t : TaskShape) (b : Tables) (h : StoreShape) (x p a : ℕ) → CanPropose t b h → has (Out a) (cands h.sheet x p) ≡ true → IsShut (span_of h.sheet (Out a)) →
    IsProposed support_rules t b h.sheet (Tok x) (R7 x p a)
is_proposed7 t b h x p a lent listed shut = record {
  rule = refl;
  legal = record { live = lent.live; allowed = record { listed = record { need = need_of h.sheet x p (Out a) listed; listed = listed }; shut = shut }; moves = listed };
  lands = refl;
  tight = tt;
}

pub is_open7 : (s : Sheet) (x p a : ℕ) → IsOpen (span_of s (Out a)) → IsStep7 s x p a → ⊥
is_open7 s x p a o k = lt_not_le (At (hi s (Out a))) (lo s (Out a)) k.shut o

pub is_proposed5 : (t : TaskShape) (b : Tables) (h : StoreShape) (x p : ℕ) (c : Cand) → CanPropose t b h → has c (cands h.sheet x p) ≡ true → (CanPrecede t b h.sheet c (Tok x) → ⊥) →
    IsProposed support_rules t b h.sheet (Tok x) (R5 x p c)
is_proposed5 t b h x p c lent listed late = record {
  rule = refl;
  legal = record { live = lent.live; allowed = record { listed = record { need = need_of h.sheet x p c listed; listed = listed }; late = late }; moves = listed };
  lands = refl;
  tight = tt;
}

pub is_kept : (t : TaskShape) (b : Tables) (s : Sheet) (x p : ℕ) (c : Cand) → CanPrecede t b s c (Tok x) → ((a : ℕ) → c ≡ Out a → IsStep7 s x p a → ⊥) → IsKept t b s x p c
is_kept t b s x p c can none = record { step5 = λ k. k.late can; step7 = none }

pub is_unlisted : (t : TaskShape) (b : Tables) (s : Sheet) (x p : ℕ) (c : Cand) → has c (cands s x p) ≡ false → IsKept t b s x p c
is_unlisted t b s x p c e = record {
  step5 = λ k. (let w = sym e ∙ k.listed.listed in cc);
  step7 = λ a o k. (let w = sym (subst (λ z. has z (cands s x p) ≡ false) o e) ∙ k.listed.listed in cc);
}

lt_to : (n : ℕ) (a : Span) → At n <ˢ a → At (n + 1) ≤ˢ a
lt_to n (At m) h = omega (arith, h)
lt_to n Never h = tt

lt_from : (n : ℕ) (a : Span) → At (n + 1) ≤ˢ a → At n <ˢ a
lt_from n (At m) h = omega (arith, h)
lt_from n Never h = tt

-- what the least of the offers says of the candidates
module _ (t : TaskShape) (b : Tables) (h : StoreShape) (x p : ℕ) (l : List Cand) (lent : CanPropose t b h) (lists : Covers h.sheet x p l) (v : Span)
    (least : IsLeast 4000000000000000 (listed_arrival t b h.sheet x p) l (length l) v) where
  value : (c : Cand) → has c (cands h.sheet x p) ≡ true → listed_arrival t b h.sheet x p c ≡ arrival t b h.sheet c (Tok x)
  value c e = ap (λ z. if z then arrival t b h.sheet c (Tok x) else Never) e

  limit : IsBeforeAll t b h.sheet x p v
  limit k d lt =
      let c = slice_index_or (cands h.sheet x p) k d in
      let e : has c (cands h.sheet x p) ≡ true = has_at (cands h.sheet x p) k d lt in
      subst (λ z. v ≤ˢ z) (value c e) (All-contains (λ d. v ≤ˢ listed_arrival t b h.sheet x p d) l c (λ k d lt. least.under k d lt) (lists.each c e))

  most : (w : Span) → IsBeforeAll t b h.sheet x p w → w ≤ˢ v
  most w all = least.most w (λ k e lt. here (slice_index_or l k e) (has (slice_index_or l k e) (cands h.sheet x p)) refl)
    where
      here : (c : Cand) (z : Bool) → has c (cands h.sheet x p) ≡ z → w ≤ˢ listed_arrival t b h.sheet x p c
      here c true e = subst (λ z. w ≤ˢ z) (sym (value c e)) (each_listed (λ d. w ≤ˢ arrival t b h.sheet d (Tok x)) c (cands h.sheet x p) all e)
      here c false e = subst (λ z. w ≤ˢ z) (sym (ap (λ z. if z then arrival t b h.sheet c (Tok x) else Never) e)) (le_never w)

  pub is_proposed4 : IsNeed h.sheet x p → lo h.sheet (Tok x) <ˢ v → IsProposed support_rules t b h.sheet (Tok x) (R4 x p v)
  is_proposed4 need later = record {
    rule = refl;
    legal = record { live = lent.live; allowed = record { need = need; limit = limit; moment = least.small }; moves = later };
    lands = refl;
    tight = record { holds = limit; greatest = most };
  }

  above : (u : Span) → u ≤ˢ At (hi h.sheet (Tok x)) → All (λ c. u <ˢ arrival t b h.sheet c (Tok x)) (cands h.sheet x p) → u <ˢ v
  above Never o each = absurd o
  above (At n) o each = lt_from n v (most (At (n + 1)) (λ k d lt. lt_to n (arrival t b h.sheet (slice_index_or (cands h.sheet x p) k d) (Tok x)) (each k d lt)))

  pub not_raised : IsNeed h.sheet x p → (lo h.sheet (Tok x) <ˢ v → ⊥) → HasStep4 t b h.sheet x p → ⊥
  not_raised need n k = n (above (lo h.sheet (Tok x)) (token_open h.sheet x lent.live (need_there h.sheet x p need)) k.later)

pub is_supplied : (t : TaskShape) (b : Tables) (h : StoreShape) (x p : ℕ) (l : List Cand) → CanPropose t b h → Covers h.sheet x p l → All (IsKept t b h.sheet x p) l →
    (HasStep4 t b h.sheet x p → ⊥) → IsSupplied t b h.sheet x p
is_supplied t b h x p l lent lists kept reached = record { kept = λ c. go c (has c (cands h.sheet x p)) refl; reached = reached }
  where
    go : (c : Cand) (z : Bool) → has c (cands h.sheet x p) ≡ z → IsKept t b h.sheet x p c
    go c true e = each_of (IsKept t b h.sheet x p) c l kept (lists.each c e)
    go c false e = is_unlisted t b h.sheet x p c e

pub passed_in : (t : TaskShape) (b : Tables) (s : Sheet) (x p : ℕ) (c : Cand) (v : Span) → ArrivalsFit t b s → has c (cands s x p) ≡ true → v ≡ arrival t b s c (Tok x) → CanPrecede t b s c (Tok x) →
    ((a : ℕ) → c ≡ Out a → IsStep7 s x p a → ⊥) → IsPassed t b s x p c v
passed_in t b s x p c v fit listed e can none = record {
  value = e ∙ sym (ap (λ z. if z then arrival t b s c (Tok x) else Never) listed);
  small = subst (λ z. IsBelow 4000000000000000 z) (sym e) (fit.all c (Tok x));
  kept = is_kept t b s x p c can none;
}

pub passed_out : (t : TaskShape) (b : Tables) (s : Sheet) (x p : ℕ) (c : Cand) → has c (cands s x p) ≡ false → IsPassed t b s x p c Never
passed_out t b s x p c e = record {
  value = sym (ap (λ z. if z then arrival t b s c (Tok x) else Never) e);
  small = tt;
  kept = is_unlisted t b s x p c e;
}

pub passed_none : (t : TaskShape) (b : Tables) (s : Sheet) (x p : ℕ) (l : List Cand) → IsPassedTo t b s x p l 0 Never
passed_none t b s x p l = record { least = least_none 4000000000000000 (listed_arrival t b s x p) l; kept = λ k e lt. absurd (omega (arith, lt)) }

pub passed_more : (t : TaskShape) (b : Tables) (s : Sheet) (x p : ℕ) (l : List Cand) (i : ℕ) (d : Cand) (v u w : Span) → i < length l → IsPassedTo t b s x p l i v → IsPassed t b s x p (slice_index_or l i d) u →
    w ≡ span_min v u → IsPassedTo t b s x p l (i + 1) w
passed_more t b s x p l i d v u w lt h g e = record {
  least = subst (λ z. IsLeast 4000000000000000 (listed_arrival t b s x p) l (i + 1) z) (sym e) (least_more 4000000000000000 (listed_arrival t b s x p) l i d v u lt h.least g.value g.small);
  kept = each_more (IsKept t b s x p) l i lt h.kept d g.kept;
}

pub supplied : (t : TaskShape) (b : Tables) (h : StoreShape) (x p : ℕ) (l : List Cand) (v : Span) → CanPropose t b h → IsNeed h.sheet x p → Covers h.sheet x p l → IsPassedTo t b h.sheet x p l (length l) v →
    (lo h.sheet (Tok x) <ˢ v → ⊥) → IsSupplied t b h.sheet x p
supplied t b h x p l v lent need lists passed n =
    is_supplied t b h x p l lent lists (λ k d lt. passed.kept k d lt) (not_raised t b h x p l lent lists v passed.least need n)

pub precedes : (t : TaskShape) (b : Tables) (s : Sheet) (x : ℕ) (c : Cand) (v : Span) → v ≡ arrival t b s c (Tok x) → (At (hi s (Tok x)) <ˢ v → ⊥) → ordered s (Tok x) c ≡ false → CanPrecede t b s c (Tok x)
precedes t b s x c v e n o = record { in_time = subst (λ w. w ≤ˢ At (hi s (Tok x))) e (elim (le_cases v (At (hi s (Tok x)))) [ inl k ↦ k | inr k ↦ absurd (n k) ]); free = o }

pub is_closed : (t : TaskShape) (b : Tables) (h : StoreShape) (x : ℕ) (l : List ℕ) → CanPropose t b h → Lists (IsNeed h.sheet x) l → All (IsSupplied t b h.sheet x) l →
    All (PostsNone h.sheet x) (adds_of t (kind_of h.sheet (Tok x))) → IsClosedAt support_rules t b h.sheet (Tok x)
is_closed t b h x l lent lists supplied posts (R4 z p v) o legal lands =
    let e : z ≡ x = tok_is z x lands in
    let m : IsLegal t b h.sheet (R4 x p v) = subst (λ k. IsLegal t b h.sheet (R4 k p v)) e legal in
    (each_of (IsSupplied t b h.sheet x) p l supplied (lists.complete p m.allowed.need)).reached
    (record { need = m.allowed.need; later = λ k d lt. lt_le (lo h.sheet (Tok x)) v (arrival t b h.sheet (slice_index_or (cands h.sheet x p) k d) (Tok x)) m.moves (m.allowed.limit k d lt) })
is_closed t b h x l lent lists supplied posts (R5 z p c) o legal lands =
    let e : z ≡ x = tok_is z x lands in
    let m : IsLegal t b h.sheet (R5 x p c) = subst (λ k. IsLegal t b h.sheet (R5 k p c)) e legal in
    ((each_of (IsSupplied t b h.sheet x) p l supplied (lists.complete p m.allowed.listed.need)).kept c).step5 m.allowed
is_closed t b h x l lent lists supplied posts (R7 z p a) o legal lands =
    let e : z ≡ x = tok_is z x lands in
    let m : IsLegal t b h.sheet (R7 x p a) = subst (λ k. IsLegal t b h.sheet (R7 k p a)) e legal in
    ((each_of (IsSupplied t b h.sheet x) p l supplied (lists.complete p m.allowed.listed.need)).kept (Out a)).step7 a refl m.allowed
is_closed t b h x l lent lists supplied posts (R6 z p) o legal lands =
    let e : only (cands h.sheet z p) ≡ x = tok_is (only (cands h.sheet z p)) x lands in
    let one : IsToken (cands h.sheet z p) x = subst (λ k. IsToken (cands h.sheet z p) k) (sym (one_only h.sheet z p legal.allowed.one.0 legal.allowed.one.1) ∙ e) legal.allowed.one.1 in
    (each_of (PostsNone h.sheet x) p (adds_of t (kind_of h.sheet (Tok x))) posts ((lent.lent.formed.supply z p (Tok x) (one_listed h.sheet z p x one)).2)).none z
    (record { need = legal.allowed.need; one = one; new = subst (λ k. before h.sheet k z ≡ false) e legal.moves })
is_closed t b h x l lent lists supplied posts step o legal lands = cc

pub no_out : (t : TaskShape) (b : Tables) (s : Sheet) (a : ℕ) → IsClosedAt support_rules t b s (Out a)
no_out t b s a (R4 x p v) o legal lands = cc
no_out t b s a (R5 x p c) o legal lands = cc
no_out t b s a (R6 x p) o legal lands = cc
no_out t b s a (R7 x p c) o legal lands = cc
no_out t b s a step o legal lands = cc
