-- what rule 10 proposes
use Rattle.std.proofs.Common.{◌≡◌, All, Contains, ℕ, ◌<◌, List, Bool, true, false, if◌then◌else◌, length, slice_index_or, refl, sym, ◌∙◌, subst}
use Rattle.std.proofs.lemmas.List.Elements.{All-contains, All-contains_itself}
use Rattle.std.proofs.lemmas.List.{get_or_default}
use Rattle.std.proofs.lemmas.Option.{unwrap_or-slice_get}
use Rattle.std.proofs.lemmas.Bool.{leb-true, le-leb}
use Rattle.cpt_task.specs.declared.span.Span.{Span}
use Rattle.cpt_task.specs.declared.span.Span.TheVariants.{At, Never}
use Rattle.cpt_task.specs.Shape.{TaskShape}
use Rattle.cpt_tables.specs.declared.tables.Tables.{Tables}
use Rattle.cpt_tables.specs.Admissible.{nth_action}
use Rattle.cpt_tables.specs.Spans.{◌≤ˢ◌, ◌<ˢ◌, IsBelow}
use Rattle.cpt_tables.proofs.SpanLemmas.{le_never, lt_not_le}
use Rattle.cpt_sheet.specs.declared.data.Cand.{Cand}
use Rattle.cpt_sheet.specs.declared.data.Cand.TheVariants.{Tok, Out}
use Rattle.cpt_sheet.specs.declared.data.Interval.{Interval}
use Rattle.cpt_sheet.specs.declared.data.Sheet.{Sheet}
use Rattle.cpt_sheet.specs.declared.data.Token.{Token}
use Rattle.cpt_sheet.specs.declared.data.Step.TheVariants.{R10}
use Rattle.cpt_sheet.specs.Live.{IsOpen, is_open, is_by}
use Rattle.cpt_sheet.specs.View.{lo, span_of, token_at, no_token}
use Rattle.cpt_sheet.specs.Gaps.{arrival}
use Rattle.cpt_calculus.specs.Rules.{IsBeforeToken, IsBeforeTokens, IsBeforeOuts}
use Rattle.cpt_steps.proofs.TightLemmas.{lt_le}
use Rattle.cpt_steps.specs.Landing.{IsThere}
use Rattle.cpt_steps.specs.Tight.{ArrivalsFit}
use Rattle.cpt_store.specs.Stores.{StoreShape}
use Rattle.cpt_proposal.specs.Least.{IsLeast}
use Rattle.cpt_index.specs.Lists.{Lists, IsOffer}
use Rattle.cpt_proposal.specs.Lent.{CanPropose}
use Rattle.cpt_store.specs.Proposals.{IsProposed}
use Rattle.cpt_index.proofs.NeedLemmas.{in_list}
use Rattle.cpt_outside.specs.NoStep.{outside_rules, is_source, source_arrival, ReachesOut, IsReached, IsNeeded}

open_from : (i : Interval) → is_open i ≡ true → IsOpen i
open_from i e = go i.lo e
  where
    go : (v : Span) → is_by v i.hi ≡ true → v ≤ˢ At i.hi
    go (At n) e = leb-true n i.hi e
    go Never e = absurd (cc)

open_to : (i : Interval) → IsOpen i → is_open i ≡ true
open_to i h = go i.lo h
  where
    go : (v : Span) → v ≤ˢ At i.hi → is_by v i.hi ≡ true
    go (At n) h = le-leb n i.hi h
    go Never h = absurd h

-- an arrival from a source is small
pub source_small : (t : TaskShape) (b : Tables) (s : Sheet) (a : ℕ) (c : Cand) → ArrivalsFit t b s → IsThere t s c → is_source s c ≡ true → IsBelow 2000000000000000 (arrival t b s c (Out a))
source_small t b s a (Tok y) fit there e = fit.tokens y (Out a) there
source_small t b s a (Out o) fit there e = fit.outs o (Out a) (open_from (span_of s (Out o)) e)

pub offers_there : (t : TaskShape) (b : Tables) (h : StoreShape) (p : ℕ) (l : List Cand) → CanPropose t b h → Lists (IsOffer h.task h.sheet p) l → All (IsThere t h.sheet) l
offers_there t b h p l lent lists k d lt = go (slice_index_or l k d) (subst (λ z. IsOffer z h.sheet p (slice_index_or l k d)) lent.lent.task (lists.sound k d lt))
  where
    go : (c : Cand) → IsOffer t h.sheet p c → IsThere t h.sheet c
    go (Tok y) o = o.0
    go (Out o') o = o.0

-- what a bound of each source is a bound of
module _ (t : TaskShape) (b : Tables) (h : StoreShape) (a p : ℕ) (l : List Cand) (lent : CanPropose t b h) (lists : Lists (IsOffer h.task h.sheet p) l) where
  offer_in : (c : Cand) → IsOffer t h.sheet p c → Contains l c
  offer_in c o = lists.complete c (subst (λ z. IsOffer z h.sheet p c) (sym lent.lent.task) o)

  offer_of : (c : Cand) → Contains l c → IsOffer t h.sheet p c
  offer_of c k = subst (λ z. IsOffer z h.sheet p c) lent.lent.task (All-contains (IsOffer h.task h.sheet p) l c lists.sound k)

  token_value : (k : ℕ) (d : Token) → k < length h.sheet.tokens → token_at h.sheet k ≡ slice_index_or h.sheet.tokens k d
  token_value k d lt = unwrap_or-slice_get h.sheet.tokens k no_token ∙ get_or_default h.sheet.tokens k no_token d lt

  -- a bound of what each source gives is one of rule 10
  pub bounds_tokens : (v : Span) → ((c : Cand) → Contains l c → v ≤ˢ source_arrival t b h.sheet a c) → IsBeforeTokens t b h.sheet a p v
  bounds_tokens v each k d lt =
      subst (λ (z : Token). IsBeforeToken t b a p v z) (token_value k d lt) (λ adds. each (Tok k) (offer_in (Tok k) (lt, adds)))

  pub bounds_outs : (v : Span) → ((c : Cand) → Contains l c → v ≤ˢ source_arrival t b h.sheet a c) → IsBeforeOuts t b h.sheet a p v
  bounds_outs v each o lt adds live =
      subst (λ z. v ≤ˢ (if z then arrival t b h.sheet (Out o) (Out a) else Never)) (open_to (span_of h.sheet (Out o)) live) (each (Out o) (offer_in (Out o) (lt, adds)))

  -- and the other way round
  pub bounds_back : (w : Span) → IsBeforeTokens t b h.sheet a p w → IsBeforeOuts t b h.sheet a p w → (c : Cand) → Contains l c → w ≤ˢ source_arrival t b h.sheet a c
  bounds_back w tokens outs (Tok y) k =
      let o = offer_of (Tok y) k in
      (subst (λ (z : Token). IsBeforeToken t b a p w z) (sym (token_value y no_token o.0)) (tokens y no_token o.0)) o.1
  bounds_back w tokens outs (Out o) k = go (is_open (span_of h.sheet (Out o))) refl
    where
      go : (z : Bool) → is_open (span_of h.sheet (Out o)) ≡ z → w ≤ˢ (if z then arrival t b h.sheet (Out o) (Out a) else Never)
      go true e = let f = offer_of (Out o) k in outs o f.0 f.1 (open_from (span_of h.sheet (Out o)) e)
      go false e = le_never w

  pub proposes10 : (v : Span) → IsNeeded t a p → IsLeast 2000000000000000 (source_arrival t b h.sheet a) l (length l) v → lo h.sheet (Out a) <ˢ v → IsProposed outside_rules t b h.sheet (Out a) (R10 a p v)
  proposes10 v need least later =
      let each : (c : Cand) → Contains l c → v ≤ˢ source_arrival t b h.sheet a c = λ c k. All-contains (λ d. v ≤ˢ source_arrival t b h.sheet a d) l c (λ i d lt. least.under i d lt) k in
      let tokens : IsBeforeTokens t b h.sheet a p v = bounds_tokens v each in
      let outs : IsBeforeOuts t b h.sheet a p v = bounds_outs v each in
      record {
        rule = refl;
        legal = record { live = lent.live; allowed = record { need = in_list p (nth_action t a).pre need; tokens = tokens; outs = outs; moment = least.small }; moves = later };
        lands = refl;
        tight = record { holds = record { tokens = tokens; outs = outs }; greatest = λ w k. least.most w (λ i e lt. bounds_back w k.tokens k.outs (slice_index_or l i e) (All-contains_itself l i e lt)) };
      }

  -- where a source reaches Out a, rule 10 has no step
  pub is_reached : (c : Cand) → Contains l c → ReachesOut t b h.sheet a c → IsReached t b h.sheet a p
  is_reached c k r = record {
    none =
        λ v tokens outs later. (let e : v ≤ˢ arrival t b h.sheet c (Out a) = subst (λ z. v ≤ˢ (if z then arrival t b h.sheet c (Out a) else Never)) r.source (bounds_back v tokens outs c k) in
        lt_not_le (lo h.sheet (Out a)) (arrival t b h.sheet c (Out a)) (lt_le (lo h.sheet (Out a)) v (arrival t b h.sheet c (Out a)) later e) r.in_time);
  }

  -- nor where the least of what they give is no later
  pub not_raised : (v : Span) → IsLeast 2000000000000000 (source_arrival t b h.sheet a) l (length l) v → (lo h.sheet (Out a) <ˢ v → ⊥) → IsReached t b h.sheet a p
  not_raised v least n = record {
    none =
        λ w tokens outs later. n (lt_le (lo h.sheet (Out a)) w v later (least.most w (λ i e lt. bounds_back w tokens outs (slice_index_or l i e) (All-contains_itself l i e lt))));
  }
